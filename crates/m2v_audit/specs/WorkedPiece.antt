-- Worked pieces, byte by byte as the syntax tables of clauses 6.2.2 and 6.2.3 give them.
use Rattle.std.specs.Prelude.{ℕ, true, false, List, [], ◌∷◌, ◌++◌}
use Rattle.m2v_model.specs.m2v_macroblock.m2v_head.declared.group.GroupInfo.{GroupInfo}

-- a sequence header, 720 by 576 at 25 Hz, 6 Mbit/s and a buffer of 112 times 16,384 bits; and its extension, interlaced,
-- of Main Profile at Main Level
unfoldable pub sequence_units : List ℕ
sequence_units =
    0x00 ∷ 0x00 ∷ 0x01 ∷ 0xB3 ∷ 0x2D ∷ 0x02 ∷ 0x40 ∷ 0x23 ∷ 0x0E ∷ 0xA6 ∷ 0x23 ∷ 0x80
    ∷ 0x00 ∷ 0x00 ∷ 0x01 ∷ 0xB5 ∷ 0x14 ∷ 0x82 ∷ 0x00 ∷ 0x01 ∷ 0x00 ∷ 0x00 ∷ []

-- a group header with the time 01:02:03 and four pictures, closed
unfoldable pub group_unit : List ℕ
group_unit = 0x00 ∷ 0x00 ∷ 0x01 ∷ 0xB8 ∷ 0x04 ∷ 0x28 ∷ 0x62 ∷ 0x40 ∷ []

-- the same with a marker bit of 0
unfoldable pub unread_unit : List ℕ
unread_unit = 0x00 ∷ 0x00 ∷ 0x01 ∷ 0xB8 ∷ 0x04 ∷ 0x20 ∷ 0x62 ∷ 0x40 ∷ []

-- the header of an I picture, the third to be shown
unfoldable pub picture_unit : List ℕ
picture_unit = 0x00 ∷ 0x00 ∷ 0x01 ∷ 0x00 ∷ 0x00 ∷ 0x8F ∷ 0xFF ∷ 0xF8 ∷ []

-- a piece up to its picture header, and a group header behind that, which isn't told
abbrev pub television : List ℕ
television = sequence_units ++ group_unit ++ picture_unit ++ group_unit

-- a piece whose group header doesn't read
abbrev pub unread_group : List ℕ
unread_group = sequence_units ++ unread_unit ++ picture_unit

abbrev pub time_of_group : GroupInfo
time_of_group = record { «drop» = false; hours = 1; minutes = 2; seconds = 3; pictures = 4; closed_gop = true; broken_link = false }
