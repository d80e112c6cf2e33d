-- A stream of two groups byte by byte, and its cuts.
use Rattle.std.specs.Prelude.{◌≡◌, ℕ, true, false, List, [], ◌∷◌, ◌++◌, take, drop}
use Rattle.m2v_model.specs.Worked.{put, grouped}
use Rattle.m2v_law_group.specs.Groups.{cut_text, groups_in, groups_chosen, is_standalone, group_place}

-- two grey frames of 16 by 16 samples, each in a closed group behind a sequence header
unfoldable pub two_groups : List ℕ
two_groups =
    take 56 grouped
    ++ take 22 grouped
    ++ 0x00 ∷ 0x00 ∷ 0x01 ∷ 0xB8 ∷ 0x00 ∷ 0x08 ∷ 0x00 ∷ 0xC0
    ∷ 0x00 ∷ 0x00 ∷ 0x01 ∷ 0x00 ∷ 0x00 ∷ 0x0B ∷ 0xA2 ∷ 0xA8
    ∷ 0x00 ∷ 0x00 ∷ 0x01 ∷ 0xB5 ∷ 0x8F ∷ 0xFF ∷ 0xF3 ∷ 0x41 ∷ 0x80
    ∷ 0x00 ∷ 0x00 ∷ 0x01 ∷ 0x01 ∷ 0x13 ∷ 0x94 ∷ 0xA5 ∷ 0x22 ∷ 0x20
    ∷ 0x00 ∷ 0x00 ∷ 0x01 ∷ 0xB7 ∷ []

-- its second group cut out: the group header then says that it is open, and that what stood before it is gone
unfoldable pub second_group : List ℕ
second_group = put 29 0xA0 (drop 56 two_groups)

-- the stream without the sequence header and its extension before the second group
abbrev pub without_second_sequence : List ℕ
without_second_sequence = take 56 two_groups ++ drop 78 two_groups

pub record WorkedRows : Type 0 where
  pub groups : groups_in two_groups ≡ 2
  pub alone : is_standalone two_groups 0 ≡ true
  pub second_alone : is_standalone two_groups 1 ≡ true
  pub third : is_standalone two_groups 2 ≡ false
  -- all of it, the first half with an end code, and the second one
  pub all : cut_text two_groups 0 2 ≡ two_groups
  pub beyond : cut_text two_groups 0 9 ≡ two_groups
  pub first : cut_text two_groups 0 1 ≡ take 56 two_groups ++ drop 112 two_groups
  pub second : cut_text two_groups 1 1 ≡ second_group
  pub chosen : groups_chosen two_groups 1 5 ≡ 1
  -- without its headers the second group can't be cut out
  pub has_both : groups_in without_second_sequence ≡ 2
  pub not_alone : is_standalone without_second_sequence 1 ≡ false
  pub at : group_place without_second_sequence 1 ≡ 448
