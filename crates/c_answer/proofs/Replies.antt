-- What C is given, case by case: an answer as one number, look up's answer in numbers, and numbers in bytes.
-- Assumes nothing.
use Prim.Native.Nat.{ℕ, ◌+◌, ◌*◌, ◌≤◌, ◌<◌}
use mathlib.Core.Path.{◌≡◌, refl, sym, ap, subst, ◌∙◌}
use mathlib.Core.List.{List, [], ◌∷◌, ◌++◌, append-nil, append_assoc}
use native.Mathlib.Numerals.{add-one}
use native.Mathlib.Omega.{arith}
use lib.Dec.{lit<}
use lib.ListN.{length, get_or, take, replicate, length-append}
use lib.Seq.{take-suc, length-take-le}
use Rattle.std.specs.Prelude.{Err, None, Ok, Some}
use Rattle.numbers.specs.Numbers.{bytes_of, put}
use Rattle.numbers.proofs.NumberLaws.{length-bytes_of, put-put, length-put}
use Rattle.numbers.proofs.Copies.{copying-start}
use Rattle.answer.specs.declared.Rule.{Rule}
use Rattle.answer.specs.declared.Rule.TheVariants.{Room}
use Rattle.answer.specs.declared.Refusal.{Refusal}
use Rattle.offset.specs.declared.FileOffset.{FileOffset}
use Rattle.answer.specs.declared.Found.{Found}
use Rattle.answer.specs.declared.Found.TheVariants.{Absent, Gone, Present}
use Rattle.answer.specs.Answers.{rule_number, refusal, number_of, place_of, refused, written_answer, Source, Written}
use Rattle.answer.proofs.Settled.{in-table, table-small, not-answered}
use Rattle.lists.proofs.Tests.{tests}
use Rattle.segment.specs.LookUp.{LookedUp}
use Rattle.c_answer.specs.declared.Reply.{Reply}
use Rattle.c_answer.specs.Boundary.{
  answer_bits,
  bits_of,
  refused_bits,
  first_value,
  Small,
  Left,
  left,
  number_bytes,
  given_to,
  replied,
  reply_of,
  reply_left,
  Sayable,
}

module _ (state v d : ℕ) (o : Source) (t at n : ℕ) where
  pub of_none : o ≡ None → record { number = 0; place = 0; values = state ∷ v ∷ d ∷ 0 ∷ 0 ∷ t ∷ at ∷ n ∷ [] } ≡ replied state v d o t at n
  unfolding replied
  of_none e = rw e

  pub of-domain : (x : ℕ) → o ≡ Some x → record { number = 0; place = 0; values = state ∷ v ∷ d ∷ 1 ∷ x ∷ t ∷ at ∷ n ∷ [] } ≡ replied state v d o t at n
  unfolding replied
  of-domain x e = rw e

-- the numbers of a record are the answer's values, with zeros after them
said-gone : (v d : ℕ) (o : Source) → replied 2 v d o 0 0 0 ≡ reply_of (Ok (Gone v d o))
unfolding replied reply_of
said-gone v d None = refl
said-gone v d (Some x) = refl

said-present : (v d : ℕ) (o : Source) (t : ℕ) (at : FileOffset) (n : ℕ) → replied 3 v d o t at.0 n ≡ reply_of (Ok (Present v d o t at n))
unfolding replied reply_of
said-present v d None t at n = refl
said-present v d (Some x) t at n = refl

module _ (f : Found) where
  pub reply-absent : f ≡ Absent → record { number = 0; place = 0; values = 1 ∷ 0 ∷ 0 ∷ 0 ∷ 0 ∷ 0 ∷ 0 ∷ 0 ∷ [] } ≡ reply_of (Ok f)
  unfolding reply_of
  reply-absent e = rw e

  pub reply-gone : {v d : ℕ} {o : Source} {r : Reply} → f ≡ Gone v d o → r ≡ replied 2 v d o 0 0 0 → r ≡ reply_of (Ok f)
  reply-gone {v} {d} {o} e g = rw e (g ∙ said-gone v d o)

  pub reply-present : {v d : ℕ} {o : Source} {t : ℕ} {at : FileOffset} {n : ℕ} {r : Reply} → f ≡ Present v d o t at n → r ≡ replied 3 v d o t at.0 n → r ≡ reply_of (Ok f)
  reply-present {v} {d} {o} {t} {at} {n} e g = rw e (g ∙ said-present v d o t at n)

module _ (f : LookedUp) where
  pub reply-answered : {x : Found} {r : Reply} → f ≡ Ok x → r ≡ reply_of (Ok x) → r ≡ reply_of f
  reply-answered e g = g ∙ ap reply_of (sym e)

  pub reply-refused : {x : Refusal} {n p : ℕ} → f ≡ Err x → n ≡ number_of x → p ≡ place_of x
      → record { number = n; place = p; values = replicate 8 0 } ≡ reply_of f
  unfolding reply_of
  reply-refused e g h = rw e (rw (g, h))

values-long : (f : LookedUp) → length (reply_of f).values ≡ 8
unfolding reply_of
values-long (Ok Absent) = refl
values-long (Ok (Gone v d None)) = refl
values-long (Ok (Gone v d (Some x))) = refl
values-long (Ok (Present v d None t at n)) = refl
values-long (Ok (Present v d (Some x) t at n)) = refl
values-long (Err r) = refl

-- the state is the first number, and small
state-small : (f : LookedUp) → get_or (reply_of f).values 0 0 < 281474976710656
unfolding reply_of
state-small (Ok Absent) = lit< tt
state-small (Ok (Gone v d o)) = lit< tt
state-small (Ok (Present v d o t at n)) = lit< tt
state-small (Err r) = lit< tt

-- a refusal's number has a byte
pub rule-small : (q : Rule) → rule_number q < 256
rule-small q = (table-small (rule_number q) (in-table q)).1

number_small : (f : LookedUp) → (reply_of f).number < 256
unfolding reply_of
number_small (Ok Absent) = lit< tt
number_small (Ok (Gone v d o)) = lit< tt
number_small (Ok (Present v d o t at n)) = lit< tt
number_small (Err r) = rule-small r.0

place-small : (f : LookedUp) → ((r : Refusal) → f ≡ Err r → place_of r < 281474976710656) → (reply_of f).place < 281474976710656
unfolding reply_of
place-small (Ok Absent) p = lit< tt
place-small (Ok (Gone v d o)) p = lit< tt
place-small (Ok (Present v d o t at n)) p = lit< tt
place-small (Err r) p = p r refl

pub reply-sayable : (a : Reply) (f : LookedUp) → a ≡ reply_of f → ((r : Refusal) → f ≡ Err r → place_of r < 281474976710656) → Sayable a
reply-sayable a f e p = rw e (record { long = values-long f; number = number_small f; place = place-small f p; state = state-small f })

-- ---- one number

pub refused-bits : (r : Refusal) (n p b : ℕ) → n ≡ number_of r → p ≡ place_of r → b ≡ answer_bits n 0 p → b ≡ refused_bits r
refused-bits r n p b e f g = g ∙ rw (e, f)

pub settled-done : (w : Written) (n b : ℕ) → w ≡ Ok n → b ≡ answer_bits 0 0 n → b ≡ bits_of (written_answer w) (first_value (written_answer w).values)
unfolding bits_of
settled-done w n b e g = rw e g

pub refused-is : (r : Refusal) (value : ℕ) → refused_bits r ≡ bits_of (refused r) value
unfolding bits_of
refused-is r value = rw (not-answered r)

pub settled-refused : (w : Written) (r : Refusal) (b : ℕ) → w ≡ Err r → b ≡ refused_bits r → b ≡ bits_of (written_answer w) (first_value (written_answer w).values)
settled-refused w r b e g = rw e (g ∙ refused-is r 0)

pub done-small : (w : Written) (n : ℕ) → w ≡ Ok n → Small w → n < 281474976710656
done-small w n e s = subst Small e s

pub refused-small : (w : Written) (r : Refusal) → w ≡ Err r → Small w → place_of r < 281474976710656
refused-small w r e s = subst Small e s

-- ---- numbers in bytes

pub numbers-long : (ns : List ℕ) → length (number_bytes ns) ≡ 8 * length ns
unfolding number_bytes
numbers-long [] = refl
numbers-long (n ∷ ns) = length-append (bytes_of 8 n) (number_bytes ns) ∙ omega (arith, length-bytes_of 8 n, numbers-long ns)

numbers-append : (ns ms : List ℕ) → number_bytes (ns ++ ms) ≡ number_bytes ns ++ number_bytes ms
unfolding number_bytes
numbers-append [] ms = refl
numbers-append (n ∷ ns) ms = ap (λ (t : List ℕ). bytes_of 8 n ++ t) (numbers-append ns ms) ∙ sym (append_assoc (bytes_of 8 n) (number_bytes ns) (number_bytes ms))

numbers-snoc : (ns : List ℕ) (i : ℕ) → i < length ns → number_bytes (take (i + 1) ns) ≡ number_bytes (take i ns) ++ bytes_of 8 (get_or ns i 0)
unfolding number_bytes
numbers-snoc ns i l =
    rw (add-one, take-suc ns i 0 l, numbers-append (take i ns) (get_or ns i 0 ∷ []), append-nil (bytes_of 8 (get_or ns i 0)))

-- i numbers are put
pub record Putting (ns out₀ : List ℕ) (i : ℕ) (out : List ℕ) : Type 0 where
  pub within : i ≤ length ns
  pub same : length out ≡ length out₀
  pub done : out ≡ put out₀ 0 (number_bytes (take i ns))

pub putting-start : (ns out : List ℕ) → Putting ns out 0 out
unfolding number_bytes
putting-start ns out = record { within = omega arith; same = refl; done = (copying-start ns out 0).done }

module _ (ns out₀ : List ℕ) (i : ℕ) (out : List ℕ) (p : Putting ns out₀ i out) where
  pub putting-more : i < length ns → 8 * length ns ≤ length out₀ → (after : List ℕ) → after ≡ put out (8 * i) (bytes_of 8 (get_or ns i 0)) → Putting ns out₀ (i + 1) after
  putting-more l r after e =
      let xs : List ℕ = number_bytes (take i ns) in
      let ys : List ℕ = bytes_of 8 (get_or ns i 0) in
      let n : length xs ≡ 8 * i = numbers-long (take i ns) ∙ ap (λ (k : ℕ). 8 * k) (length-take-le i ns (omega arith)) in
      let m : 0 + length xs ≡ 8 * i = omega arith in
      let j : put (put out₀ 0 xs) (8 * i) ys ≡ put out₀ 0 (xs ++ ys) = rw m at (put-put out₀ 0 xs ys (omega arith)) in
      let room : 8 * i + length ys ≤ length out = omega (arith, p.same, length-bytes_of 8 (get_or ns i 0)) in
      record {
        within = omega arith;
        same = ap length e ∙ length-put out (8 * i) ys room ∙ p.same;
        done = e ∙ ap (λ (o : List ℕ). put o (8 * i) ys) p.done ∙ j ∙ sym (ap (put out₀ 0) (numbers-snoc ns i l));
      }

-- ---- numbers for a lent slice

module _ (value : ℕ) (ns out : List ℕ) where
  pub given-room : (b : ℕ) → length out < 8 * length ns → b ≡ refused_bits (refusal Room 0) → left b out ≡ given_to value ns out
  unfolding given_to
  given-room b l e = rw e (simp tests)

  pub given-put : (b : ℕ) (after : List ℕ) → 8 * length ns ≤ length out → after ≡ put out 0 (number_bytes ns) → b ≡ answer_bits 0 0 value
      → left b after ≡ given_to value ns out
  unfolding given_to
  given-put b after l e f = rw (e, f) (simp tests)

module _ (a : Reply) (found : List ℕ) where
  pub left-refused : (b : ℕ) → 0 < a.number → b ≡ answer_bits a.number 0 a.place → left b found ≡ reply_left a found
  unfolding reply_left
  left-refused b h e = let n : a.number ≡ 0 → ⊥ = λ q. omega arith in rw e (simp tests)

  pub left-given : (x : Left) → a.number ≡ 0 → x ≡ given_to (get_or a.values 0 0) a.values found → x ≡ reply_left a found
  unfolding reply_left
  left-given x e g = g ∙ simp (tests, e)
