-- A list that has another one at a place: its parts stand one after the other, and what is read there is what stands there.
-- Assumes nothing.
use Prim.Native.Nat.{ℕ, ◌+◌, ◌^◌, ◌<◌}
use mathlib.Core.Path.{◌≡◌, sym, ap, ◌∙◌}
use mathlib.Core.List.{List, [], ◌++◌, append-nil, append_assoc}
use lib.ListN.{length, take, drop}
use lib.Seq.{drop-append_seam, take_at, drop-drop}
use Rattle.numbers.specs.Numbers.{le, num_at, bytes_of}
use Rattle.numbers.proofs.NumberLaws.{length-bytes_of, le-bytes_of}

pub record HasAt (s : List ℕ) (at : ℕ) (xs : List ℕ) : Type 0 where
  pub rest : List ℕ
  pub here : drop at s ≡ xs ++ rest

pub has-whole : (s : List ℕ) → HasAt s 0 s
has-whole s = record { rest = []; here = sym (append-nil s) }

-- of two parts, the one where both stand, and the other behind it
pub has_left : {s : List ℕ} {at : ℕ} (xs ys : List ℕ) → HasAt s at (xs ++ ys) → HasAt s at xs
has_left xs ys h = record { rest = ys ++ h.rest; here = h.here ∙ append_assoc xs ys h.rest }

pub has_right : {s : List ℕ} {at : ℕ} (xs ys : List ℕ) → HasAt s at (xs ++ ys) → HasAt s (at + length xs) ys
has_right {s} {at} xs ys h = record {
  rest = h.rest;
  here =
      sym (drop-drop (length xs) at s) ∙ ap (drop (length xs)) (h.here ∙ append_assoc xs ys h.rest)
      ∙ drop-append_seam xs (ys ++ h.rest);
}

-- what stands there is taken
pub has-taken : {s : List ℕ} {at : ℕ} (xs : List ℕ) (n : ℕ) → HasAt s at xs → length xs ≡ n → take n (drop at s) ≡ xs
has-taken xs n h e = ap (take n) h.here ∙ take_at xs h.rest n e

-- the number whose bytes stand there is read
pub has-number : {s : List ℕ} {at : ℕ} (n v : ℕ) → HasAt s at (bytes_of n v) → v < 256 ^ n → num_at n s at ≡ v
unfolding num_at
has-number n v h f = ap le (has-taken (bytes_of n v) n h (length-bytes_of n v)) ∙ le-bytes_of n v f
