-- What the writers of the sections are told, and the digest section said of items.
--   Near          so many records at such places that no place passes a number's width
--   item_digests   the digests of items, one behind the other
--   item_section   and zeros behind them
--   digests_in, section_in   the same of items as they are lent
-- Assumes nothing: these are definitions.
use Rattle.std.specs.Prelude.{ℕ, ◌≤◌, List, [], ◌∷◌, ◌++◌, length, replicate}
use Rattle.segment.specs.declared.header.Header.{Header}
use Rattle.segment.specs.Format.{record_limit, file_limit, digests_offset, extents_offset}
use Rattle.segment.specs.Tidy.{lacking}
use Rattle.key.specs.declared.Kind.{Kind}
use Rattle.key.specs.declared.Items.{Items}
use Rattle.key.specs.Items.{item_digest}

pub record Near (h : Header) (numbers : List ℕ) : Type 0 where
  pub few : length numbers ≤ record_limit
  pub digests : digests_offset h ≤ file_limit
  pub extents : extents_offset h ≤ file_limit

unfoldable pub item_digests : Kind → List ℕ → List ℕ → List ℕ → List ℕ
item_digests kind bytes list [] = []
item_digests kind bytes list (k ∷ numbers) = item_digest kind bytes list k ++ item_digests kind bytes list numbers

unfoldable pub item_section : Kind → List ℕ → List ℕ → List ℕ → List ℕ
item_section kind bytes list numbers =
    let digests = item_digests kind bytes list numbers in
    digests ++ replicate (lacking (length digests)) 0

abbrev pub digests_in : Items → List ℕ → List ℕ
digests_in items numbers = item_digests items.kind items.bytes.now items.list.now numbers

abbrev pub section_in : Items → List ℕ → List ℕ
section_in items numbers = item_section items.kind items.bytes.now items.list.now numbers
