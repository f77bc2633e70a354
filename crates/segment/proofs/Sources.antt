-- A record's source in its two numbers, and back.
-- Assumes nothing.
use Prim.Native.Nat.{ℕ, ◌≤◌, ◌<◌}
use mathlib.Core.Path.{◌≡◌, refl}
use native.Mathlib.Omega.{arith}
use borrow.Author.Tests.{eqb-true, eqb-false}
use lib.Dec.{eqb}
use Rattle.std.specs.Prelude.{None, Some}
use Rattle.answer.specs.Answers.{Source}
use Rattle.lists.proofs.Tests.{by-test}
use Rattle.segment.specs.Meaning.{source_of}
use Rattle.segment.specs.Tidy.{imported_of, domain_of}

pub imported-fits : (src : Source) → imported_of src ≤ 1
imported-fits None = omega arith
imported-fits (Some d) = omega arith

pub own-source : (src : Source) → imported_of src ≡ 0 → domain_of src ≡ 0
own-source None e = refl
own-source (Some d) e = absurd (omega arith)

pub source-read : (src : Source) → source_of (imported_of src) (domain_of src) ≡ src
source-read None = refl
source-read (Some d) = refl

pub source_fits : (imported domain : ℕ) → domain < 4294967296 → domain_of (source_of imported domain) < 4294967296
source_fits imported domain l = by-test (eqb imported 0) (λ e. rw e (omega arith)) (λ e. rw e l)

-- what is written of what was read
pub imported-again : (imported source : ℕ) → imported ≤ 1 → imported ≡ imported_of (source_of imported source)
imported-again imported source l =
    by-test (eqb imported 0) (λ e. rw e (eqb-true imported 0 e))
    (λ e. let n = eqb-false imported 0 e in rw e (omega arith))

pub source-again : (imported source : ℕ) → (imported ≡ 0 → source ≡ 0) → source ≡ domain_of (source_of imported source)
source-again imported source own = by-test (eqb imported 0) (λ e. rw e (own (eqb-true imported 0 e))) (λ e. rw e)
