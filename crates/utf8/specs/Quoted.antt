-- A quoted text as its bytes, in UTF-8 (RFC 3629, section 3), so that spellings and readings can be written as they look. Assumes nothing.
use Rattle.std.specs.Prelude.{List, [], ◌++◌, ℕ}
use Prim.Native.Char.{code}
use Prim.Native.String.{String}
use Prim.Native.String as Str
use Rattle.utf8.specs.Utf8.{encode}

-- the bytes of a text's characters
abbrev pub bytes : String → List ℕ
bytes Str.[] = []
bytes (Str.◌∷◌ c s) = encode (code c) ++ bytes s
