-- Why a text is no site stamp: `Site.SiteRefuses` has for each text the number that the computation gives, and no other. Assumes nothing.
use mathlib.Core.Path.{◌≡◌, refl, sym}
use mathlib.Core.Bool.{false}
use mathlib.Core.Logic.{◌↔◌}
use mathlib.Core.List.{List}
use Prim.Native.Nat.{ℕ}
use lib.IntN.{ℤ}
use Rattle.refusal.specs.Outcome.{Outcome, accepted, refused, and_then}
use Rattle.refusal.proofs.Outcomes.{clash, same}
use Rattle.text.proofs.Bools.{by_test, holds_not}
use Rattle.clock.specs.Clock.{Clock}
use Rattle.stamp_text.specs.Grammar.{Ymd}
use Rattle.number.specs.Widths.{in_signed}
use Rattle.datetime.specs.Moment.{Moment, instant}
use Rattle.stamp_text.specs.Answer.{datetime, in_nanos, stamp_nanos}
use Rattle.stamp_text.specs.Meaning.{names, Reads, reads}
use Rattle.stamp_text.proofs.Agreement as stamps
use Rattle.stamp_text.proofs.Refusals as plain
use Rattle.site.specs.Site.{SiteStamp, SiteRefuses, as_plain, no_site, is_site, on_moment, site_marked}
use Rattle.site.specs.declared.Marked.{Marked}
use Rattle.site.proofs.SiteAgrees.{site_test_lem, site_of}

-- a text that is read and is no site stamp fails the test
not_site : {t : List ℕ} {z : ℤ} → Reads t z → ((d : Ymd) (c : Clock) → SiteStamp t d c → ⊥) → is_site t ≡ false
not_site {t} (reads m (names {d = d} {c = c} z s e ok r u) fits) h = by_test (is_site t) (λ p. absurd (h d c (site_of s p).0)) (λ p. p)

-- the plain reader's refusal is the site stamp's
plain_refusal : (t : List ℕ) (n : ℕ) → stamp_nanos t ≡ refused n → site_marked t ≡ refused n
plain_refusal t n = by (datetime t)
  where
    by : (o : Outcome Moment) → and_then o (λ m. in_nanos (instant m)) ≡ refused n → and_then o (on_moment t) ≡ refused n
    by (refused k) e = rw (same e)
    by (accepted m) e = rw e

-- 12 where the plain reader reads the text
twelve : {t : List ℕ} {z : ℤ} → Reads t z → ((d : Ymd) (c : Clock) → SiteStamp t d c → ⊥) → site_marked t ≡ refused 12
twelve {t} (reads m n fits) h = rw ((stamps.agrees t m).0 n, fits, not_site (reads m n fits) h)

into : {t : List ℕ} {n : ℕ} → SiteRefuses t n → site_marked t ≡ refused n
into (as_plain {t} {n} r) = plain_refusal t n ((plain.refusals t n).0 r)
into (no_site z r h) = twelve r h

pub refusals : (t : List ℕ) (n : ℕ) → SiteRefuses t n ↔ (site_marked t ≡ refused n)
refusals t n = (into, back (datetime t) refl)
  where
    back : (o : Outcome Moment) → datetime t ≡ o → and_then o (on_moment t) ≡ refused n → SiteRefuses t n
    back (refused k) p e = rw (← same e) (as_plain ((plain.refusals t k).1 (rw p)))
    back (accepted m) p e =
        by_test (in_signed 63 (instant m))
        (λ f.
        by_test (is_site t)
        (λ s. clash (sym (rw (f, s) at e)))
        (λ s.
        let w : ◌≡◌ {A = Outcome Marked} (refused 12) (refused n) = rw (f, s) at e in
        rw (← same w) (no_site (instant m) (reads m ((stamps.agrees t m).1 p) f) (λ d c k. holds_not s site_test_lem k))))
        (λ f.
        let w : ◌≡◌ {A = Outcome Marked} (refused 6) (refused n) = rw f at e in
        rw (← same w) (as_plain ((plain.refusals t 6).1 (rw (p, f)))))
