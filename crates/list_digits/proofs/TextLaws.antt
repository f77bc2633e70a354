-- The laws of text: what io spells is the number's decimal, bytes are spelled one after the other, and what is put behind what was put.
-- Assumes nothing.
use Prim.Native.Nat.{ℕ, zero, suc, ◌+◌, ◌-◌, ◌*◌, ◌/◌, ◌%◌, ◌^◌, ◌≤◌, ◌<◌}
use mathlib.Core.Path.{◌≡◌, refl, sym, ap, ◌∙◌}
use mathlib.Core.List.{List, [], ◌∷◌, ◌++◌, append_assoc}
use native.Mathlib.Nat.{pow-succ', one-le-pow, pow-le-pow_right}
use native.Mathlib.Numerals.{add-one, sub-one}
use native.Mathlib.Omega.{arith}
use borrow.Author.Tests.{ltb-true, ltb-false}
use borrow.Rule.Slice.PartMut.{put_mid}
use lib.Dec.{lit<, ltb}
use lib.ListN.{length, take, drop, set, get_or, length-append}
use lib.Seq.{take-suc, take_all, drop-drop, length-take-le, sets-eq}
use Rattle.io.specs.Digits.{hex_digit_ascii, last_digits, IsDigitCount}
use Rattle.numbers.specs.Numbers.{put}
use Rattle.numbers.proofs.NumberLaws.{put-put, length-put, put-none, set-put}
use Rattle.lists.proofs.Tests.{tests, by-test}
use Rattle.list_digits.specs.declared.Text.{Text}
use Rattle.list_digits.specs.Digits.{decimal_in, decimal, hex, Appended, Puts}

-- ---- decimal digits

one-digit : (most n : ℕ) → n < 10 → hex_digit_ascii n ∷ [] ≡ decimal_in most n
unfolding decimal_in
one-digit zero n h = refl
one-digit (suc most) n h = simp tests

more-digits : (most n : ℕ) → 10 ≤ n → decimal_in (suc most) n ≡ decimal_in most (n / 10) ++ (hex_digit_ascii (n % 10) ∷ [])
unfolding decimal_in
more-digits most n h = simp tests

-- as many digits as a number needs are its decimal
spelled-in : (k most n : ℕ) → n ≤ most → n < 10 ^ suc k → (0 < k → 10 ^ k ≤ n) → last_digits 10 (suc k) n ≡ decimal_in most n
spelled-in zero most n l h g =
    let m : n % 10 ≡ n = omega arith in
    rw m (one-digit most n (omega arith))
spelled-in (suc k) zero n l h g =
    let p : 0 < 10 ^ suc k = one-le-pow (suc k) 10 (lit< tt) in
    absurd (omega (arith, g (omega arith)))
spelled-in (suc k) (suc most) n l h g =
    let a : n < 10 * 10 ^ suc k = rw pow-succ' at h in
    let b : 10 * 10 ^ k ≤ n = rw pow-succ' at (g (omega arith)) in
    let p : 0 < 10 ^ k = one-le-pow k 10 (lit< tt) in
    let i : last_digits 10 (suc k) (n / 10) ≡ decimal_in most (n / 10) = spelled-in k most (n / 10) (omega arith) (omega arith) (λ z. omega arith) in
    ap (λ (d : List ℕ). d ++ (hex_digit_ascii (n % 10) ∷ [])) i ∙ sym (more-digits most n (omega arith))

pub spelled : (n k : ℕ) → IsDigitCount 10 1 n k → last_digits 10 k n ≡ decimal n
unfolding decimal
spelled n zero f = absurd (omega arith)
spelled n (suc k) f = spelled-in k n n (omega arith) f.1 (λ l. rw sub-one at (f.2 (omega arith)))

-- ---- bytes

hex-append : (xs ys : List ℕ) → hex (xs ++ ys) ≡ hex xs ++ hex ys
unfolding hex
hex-append [] ys = refl
hex-append (x ∷ xs) ys = ap (λ (d : List ℕ). hex_digit_ascii (x / 16) ∷ hex_digit_ascii (x % 16) ∷ d) (hex-append xs ys)

-- ---- two stores, and a word

two-stores : (s : List ℕ) (k v w : ℕ) → k + 1 < length s → set (set s k v) (k + 1) w ≡ put s k (v ∷ w ∷ [])
unfolding put
two-stores s k v w h = rw add-one (sets-eq (v ∷ w ∷ []) s k (omega arith))

-- a word copied into what is lent for it
pub lent : (s word q : List ℕ) (at : ℕ) → q ≡ word → put_mid at (at + length word - at) s q ≡ put s at word
unfolding put
lent s word q at e =
    let n : at + length word - at ≡ length word = omega arith in
    rw (n, e, drop-drop (length word) at s) (sym (append_assoc (take at s) word (drop (at + length word) s)))

-- ---- one behind the other

module _ {m₁ m₂ : ℕ} {s t u : List ℕ} {at p q : ℕ} {xs ys : List ℕ} where
  pub appended : Appended m₁ s at xs t p → Appended m₂ t p ys u q → Appended (m₁ + m₂) s at (xs ++ ys) u q
  appended a b =
      let n = length-append xs ys in
      let l : length t ≡ length s = ap length a.same ∙ length-put s at xs a.fits in
      record {
        same = b.same ∙ rw (a.same, a.stops) (put-put s at xs ys a.fits);
        stops = omega (arith, a.stops, b.stops);
        fits = omega (arith, a.stops, b.fits);
        short = omega (arith, a.short, b.short);
      }

-- the same bytes by another name, and a larger bound
pub retold : {m n : ℕ} {s t : List ℕ} {at p : ℕ} {xs ys : List ℕ} → Appended m s at xs t p → xs ≡ ys → m ≤ n → Appended n s at ys t p
retold {m} {n} {s} {t} {at} {p} {xs} {ys} a e h =
    let l : length xs ≡ length ys = ap length e in
    record {
      same = a.same ∙ ap (put s at) e;
      stops = omega (arith, a.stops);
      fits = omega (arith, a.fits);
      short = omega (arith, a.short);
    }

-- nothing put
pub nothing : (m : ℕ) (s : List ℕ) (at : ℕ) → at ≤ length s → Appended m s at [] s at
nothing m s at h = record { same = sym (put-none s at); stops = omega arith; fits = omega arith; short = omega arith }

-- ---- the same of a text

module _ {m : ℕ} {s t : Text} {xs : List ℕ} where
  pub puts_of : t.out.ghost_name ≡ s.out.ghost_name → Appended m s.out.now s.at xs t.out.now t.at → Puts m s xs t
  puts_of r a = record { same_reference = r; same_length = ap length a.same ∙ length-put s.out.now s.at xs a.fits; put = a }

  pub puts_as : {n : ℕ} {ys : List ℕ} → Puts m s xs t → xs ≡ ys → m ≤ n → Puts n s ys t
  puts_as a e h = record { same_reference = a.same_reference; same_length = a.same_length; put = retold a.put e h }

  pub puts_both : {n : ℕ} {u : Text} {ys : List ℕ} → Puts m s xs t → Puts n t ys u → Puts (m + n) s (xs ++ ys) u
  puts_both a b = record { same_reference = b.same_reference ∙ a.same_reference; same_length = b.same_length ∙ a.same_length; put = appended a.put b.put }

pub puts_none : (m : ℕ) (t : Text) → t.at ≤ length t.out.now → Puts m t [] t
puts_none m t h = puts_of refl (nothing m t.out.now t.at h)

-- the byte behind what was put
pub closed : (s : List ℕ) (at : ℕ) (xs : List ℕ) (end : ℕ) (t : List ℕ) (stop : ℕ) → t ≡ put s at xs → stop ≡ at + length xs → at + length xs < length s
    → Appended (length xs + 1) s at (xs ++ (end ∷ [])) (set t stop end) (stop + 1)
closed s at xs end t stop e z h =
    let n = length-append xs (end ∷ []) in
    let l : length t ≡ length s = ap length e ∙ length-put s at xs (omega arith) in
    record {
      same = set-put t stop end (omega arith) ∙ rw (e, z) (put-put s at xs (end ∷ []) (omega arith));
      stops = omega arith;
      fits = omega arith;
      short = omega arith;
    }

-- a number of 64 bits has at most twenty digits
few-digits : (n k : ℕ) → n < 18446744073709551616 → IsDigitCount 10 1 n k → k ≤ 20
few-digits n k h f =
    by-test (ltb 20 k)
    (λ t. let l = ltb-true 20 k t in absurd (omega (arith, pow-le-pow_right {n = 10} (lit< tt) {i = 20} {j = k - 1} (omega arith), f.2 (omega arith))))
    (λ t. ltb-false 20 k t)

-- a number that io spelled
module _ (n k : ℕ) (text : List ℕ) (h : n < 18446744073709551616) (f : IsDigitCount 10 1 n k) (e : take k text ≡ last_digits 10 k n) (w : k ≤ length text) where
  word-short : length (take k text) ≤ 20
  word-short = omega (arith, length-take-le k text w, few-digits n k h f)

  pub spelled-word : (s : List ℕ) (at end : ℕ) (t : List ℕ) (stop : ℕ) → Appended (length (take k text) + 1) s at (take k text ++ (end ∷ [])) t stop
      → Appended 21 s at (decimal n ++ (end ∷ [])) t stop
  spelled-word s at end t stop a =
      retold a (ap (λ (d : List ℕ). d ++ (end ∷ [])) (e ∙ spelled n k f)) (omega (arith, word-short))

-- ---- the loop over bytes

-- i bytes are spelled
pub record Spelling (digest : List ℕ) (old : Text) (i : ℕ) (new : Text) : Type 0 where
  pub puts : Puts (2 * i) old (hex (take i digest)) new
  pub stops : new.at ≡ old.at + 2 * i

pub spelling-start : (digest : List ℕ) (t : Text) → t.at ≤ length t.out.now → Spelling digest t 0 t
unfolding hex
spelling-start digest t h = record { puts = puts_none 0 t h; stops = omega arith }

module _ (digest before : List ℕ) (at i : ℕ) (out : List ℕ) (stop : ℕ) (v : Appended (2 * i) before at (hex (take i digest)) out stop) where
  pub spelling-more : (a b : ℕ) → i < length digest → stop + 1 < length out → a ≡ hex_digit_ascii (get_or digest i 0 / 16) → b ≡ hex_digit_ascii (get_or digest i 0 % 16)
      → Appended (2 * (i + 1)) before at (hex (take (i + 1) digest)) (set (set out stop a) (stop + 1) b) (stop + 2)
  unfolding hex
  spelling-more a b l h p q =
      let e : hex (take i digest) ++ (a ∷ b ∷ []) ≡ hex (take (i + 1) digest) = rw (add-one, take-suc digest i 0 l, hex-append, p, q) refl in
      let two : Appended 2 out stop (a ∷ b ∷ []) (set (set out stop a) (stop + 1) b) (stop + 2) = record { same = two-stores out stop a b h; stops = omega arith; fits = omega arith; short = omega arith } in
      retold (appended v two) e (omega arith)

  pub spelling-done : (end : ℕ) → i ≡ length digest → stop < length out
      → Appended (2 * length digest + 1) before at (hex digest ++ (end ∷ [])) (set out stop end) (stop + 1)
  spelling-done end l h =
      let t : take i digest ≡ digest = take_all i digest (omega arith) in
      let last : Appended 1 out stop (end ∷ []) (set out stop end) (stop + 1) = closed out stop [] end out stop (sym (put-none out stop)) (omega arith) (omega arith) in
      retold (appended v last) (ap (λ (d : List ℕ). hex d ++ (end ∷ [])) t) (omega arith)

-- where it ends is inside
pub stop-within : {m : ℕ} {s t : List ℕ} {at p : ℕ} {xs : List ℕ} → Appended m s at xs t p → p ≤ length t
stop-within {s = s} {at = at} {xs = xs} a = omega (arith, ap length a.same, length-put s at xs a.fits, a.stops, a.fits)
