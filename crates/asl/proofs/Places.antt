-- What the services answer fits the value of an answer: lengths are at most one GiB, places in a file are below that, and others those of entries.
-- Assumes nothing.
use Prim.Native.Nat.{ℕ, ◌<◌}
use mathlib.Core.Path.{◌≡◌, refl, sym, ap, subst}
use mathlib.Core.Bool.{true}
use mathlib.Core.List.{List}
use native.Mathlib.Omega.{arith}
use borrow.Author.Tests.{leb-true}
use lib.Dec.{leb, lit<}
use lib.ListN.{length}
use Rattle.std.specs.Prelude.{Result, Err, Ok}
use Rattle.answer.specs.declared.Refusal.{Refusal}
use Rattle.answer.specs.declared.Rule.TheVariants.{Large, Room, Key as KeyWrong}
use Rattle.answer.specs.Rules.{must, ◌then◌, Verdict, accepted}
use Rattle.answer.specs.Answers.{refusal, written_answer, Written}
use Rattle.answer.proofs.Order.{must-accepted, then-accepted}
use Rattle.answer.proofs.Places.{Placed, accepts, refuses, placed-must, placed-then, placed_below}
use Rattle.answer.proofs.Settled.{written-settled}
use Rattle.segment.specs.Format.{v3, file_limit}
use Rattle.segment.specs.Keys.{Key, allows_key}
use Rattle.segment.specs.Check.{segment_verdict, checked}
use Rattle.segment.specs.LookUp.{key_verdict, found_under, looked_up}
use Rattle.segment.specs.Walk.{stepped}
use Rattle.segment.specs.Meaning.{meaning_of}
use Rattle.segment.specs.Tidy.{Outcome, outcome, tidy_form, room_verdict, settled, tidied, tidy_of, tidy_sized, tidy_length_of}
use Rattle.segment.specs.Write.{Request, request_verdict, wrote, write_of}
use Rattle.segment.proofs.Shapes.{v3-shaped}
use Rattle.check_book.proofs.Places.{table-placed, segment-placed}
use Rattle.write_book.proofs.Places.{request-placed}
use Rattle.c_answer.specs.Boundary.{Small, value_limit}

some : 0 < value_limit
some = lit< tt

under-placed : (pairs s : List ℕ) → Placed value_limit (segment_verdict v3 pairs s)
under-placed pairs s = segment-placed (omega arith) v3 v3-shaped pairs s

check-placed : (pairs s : List ℕ) → Placed value_limit (checked pairs s)
unfolding checked
check-placed pairs s = placed-then (table-placed some pairs) (under-placed pairs s)

key-placed : (pairs : List ℕ) (key : Key) → Placed value_limit (key_verdict pairs key)
unfolding key_verdict
key-placed pairs key = placed-must (allows_key pairs key) KeyWrong 0 some

pub checked-place : (pairs s : List ℕ) (r : Refusal) → checked pairs s ≡ Err r → r.1 < value_limit
checked-place pairs s r e = placed_below (check-placed pairs s) r e

-- what is refused in order, and a value behind it that is refused nowhere
value-place : {A : Type 0} {x : A} (r : Refusal) → Ok x ≡ Err r → r.1 < value_limit
value-place r e = let z : ◌≡◌ {A = ℕ} 0 1 = cc in absurd (omega arith)

then-place : {A : Type 0} {v : Verdict} (w : Result A Refusal) → Placed value_limit v → ((r : Refusal) → w ≡ Err r → r.1 < value_limit)
    → (r : Refusal) → (v then w) ≡ Err r → r.1 < value_limit
then-place w accepts p r e = p r e
then-place w (refuses {q} l) p r e = let h : q ≡ r = cc in subst (λ (x : Refusal). x.1 < value_limit) h l

-- ---- look up, and a step

pub looked-up-place : (pairs s : List ℕ) (key : Key) (r : Refusal) → looked_up pairs s key ≡ Err r → r.1 < value_limit
unfolding looked_up found_under
looked-up-place pairs s key =
    then-place _ (table-placed some pairs)
    (then-place _ (key-placed pairs key) (then-place _ (under-placed pairs s) value-place))

pub stepped-place : (pairs s : List ℕ) (k : ℕ) (r : Refusal) → stepped pairs s k ≡ Err r → r.1 < value_limit
unfolding stepped
stepped-place pairs s k = then-place _ (check-placed pairs s) value-place

-- ---- lengths

then-small : {v : Verdict} (n : ℕ) → Placed value_limit v → (v ≡ accepted → n < value_limit) → Small (v then Ok n)
then-small n accepts p = p refl
then-small n (refuses l) p = l

-- a length that keeps to the limit is small
kept_small : (n : ℕ) → leb n file_limit ≡ true → n < value_limit
kept_small n e = let l = leb-true n file_limit e in omega arith

settled-small : (v : Verdict) (form : List ℕ) (room : ℕ) → Placed value_limit v → Small (settled v form room)
unfolding settled room_verdict
settled-small v form room p =
    let n : ℕ = length form in
    then-small n (placed-then p (placed-then (placed-must (leb n file_limit) Large 0 some) (placed-must (leb n room) Room 0 some)))
    (λ e.
    let kept = ((then-accepted (must (leb n file_limit) (refusal Large 0)) (must (leb n room) (refusal Room 0))).0 ((then-accepted v _).0 e).1).0 in
    kept_small n ((must-accepted (leb n file_limit) (refusal Large 0)).0 kept))

-- an answer that says what a small one says is small
same-small : (w x : Written) → written_answer w ≡ written_answer x → Small x → Small w
same-small w x e s = subst Small (sym (written-settled w x e)) s

pub tidied-small : (pairs s out after : List ℕ) (w : Written) → outcome w after ≡ tidy_of pairs s out → Small w
unfolding tidy_of tidied
tidied-small pairs s out after w e =
    same-small w (tidied pairs s (length out)) (ap (λ (o : Outcome). o.answer) e) (settled-small (checked pairs s) (tidy_form v3 (meaning_of v3 s)) (length out) (check-placed pairs s))

pub sized-small : (pairs s : List ℕ) (w : Written) → written_answer w ≡ tidy_length_of pairs s → Small w
unfolding tidy_length_of tidy_sized
sized-small pairs s w e =
    let n : ℕ = length (tidy_form v3 (meaning_of v3 s)) in
    same-small w (tidy_sized pairs s) e
    (then-small n (placed-then (check-placed pairs s) (placed-must (leb n file_limit) Large 0 some))
    (λ f. kept_small n ((must-accepted (leb n file_limit) (refusal Large 0)).0 ((then-accepted (checked pairs s) _).0 f).1)))

request-verdict : (pairs : List ℕ) (q : Request) → Placed value_limit (request_verdict v3 pairs q)
unfolding request_verdict
request-verdict pairs q = placed-then (table-placed some pairs) (request-placed (omega arith) some v3 pairs (length q.bloom) q.entries q.digests q.extents)

pub wrote-small : (pairs : List ℕ) (q : Request) (out after : List ℕ) (w : Written) → outcome w after ≡ write_of pairs q out → Small w
unfolding write_of wrote
wrote-small pairs q out after w e =
    same-small w (wrote pairs q (length out)) (ap (λ (o : Outcome). o.answer) e) (settled-small (request_verdict v3 pairs q) _ (length out) (request-verdict pairs q))
