-- The keypad text of a number, computed: document 02, No. 9. Numbered.antt says the same without computing. Assumes nothing.
use Rattle.std.specs.Prelude.{cond, List, [], ◌∷◌, ◌++◌, ℕ, zero, suc, ◌+◌, ◌-◌, ◌*◌, ◌/◌, ◌%◌, ltb, length, slice_index_or, remove}
use Rattle.refusal.specs.Outcome.{Outcome, accepted, refused}
use Rattle.unit.specs.Units.{units}
use Rattle.unit.specs.declared.IntervalUnit.{IntervalUnit}
use Rattle.unit.specs.declared.IntervalUnit.TheVariants.{Century}
use Rattle.keypad.specs.Texts.{word, Component, component}

-- how many lists there are of so many components with u units not yet used: ten digits and u units for the first, and the others with u - 1
unfoldable pub ways : ℕ → ℕ → ℕ
ways zero u = 1
ways (suc c) u = 10 * (u * ways c (u - 1))

-- the component at a place among those with a unit not yet used: "by digit, then by unit"
unfoldable pub component_at : List IntervalUnit → ℕ → Component
component_at unused i = component (i / length unused) (slice_index_or unused (i % length unused) Century)

-- how many there are for the others, behind the first of c + 1 components
abbrev pub others : ℕ → List IntervalUnit → ℕ
others c unused = ways c (length unused - 1)

-- list number k of those of so many components with the units not yet used: each first component stands in front of every list of the others,
-- which use its unit no more
unfoldable pub components : ℕ → List IntervalUnit → ℕ → List Component
components zero unused k = []
components (suc c) unused k =
    component_at unused (k / others c unused) ∷ components c (remove unused (k / others c unused % length unused)) (k % others c unused)

-- the text of a component
unfoldable pub glue : Component → List ℕ
glue c = (0x30 + c.digit) ∷ word c.unit

-- the text of components
unfoldable pub join : List Component → List ℕ
join [] = []
join (c ∷ []) = glue c
join (c ∷ e ∷ l) = glue c ++ (0x20 ∷ join (e ∷ l))

-- the components of text k: "fewer components first", 120 of one, 13,200 of two and 1,320,000 of three
unfoldable pub components_of : ℕ → List Component
components_of k = cond (ltb k 120) (components 1 units k) (cond (ltb k 13_320) (components 2 units (k - 120)) (components 3 units (k - 13_320)))

-- text k
unfoldable pub text_of : ℕ → List ℕ
text_of k = join (components_of k)

-- what a number answers: "a k of 1,333,320 or more gives 17"
unfoldable pub keypad_text : ℕ → Outcome (List ℕ)
keypad_text k = cond (ltb k 1_333_320) (accepted (text_of k)) (refused 17)
