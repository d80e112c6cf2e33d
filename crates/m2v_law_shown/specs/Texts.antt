-- The pictures of the encoder's stream one behind another in coding order: their texts, their bits, and their start codes.
use Rattle.std.specs.Prelude.{ℕ, ◌+◌, ◌-◌, Bool, true, false, List, [], ◌∷◌, ◌++◌, map, length}
use Rattle.std.specs.List.{range_with_len}
use Rattle.m2v_plane.specs.Samples.{Samples}
use Rattle.m2v_set.specs.declared.settings.Settings.{Settings}
use Rattle.m2v_order.specs.Groups.{Group}
use Rattle.m2v_rate.specs.Plans.{Entries}
use Rattle.m2v_slice.specs.Headers.{bits_to_code}
use Rattle.m2v_slice.specs.Books.{Book, CodedPicture, coded, job_at, size_of, ledger_behind}
use Rattle.m2v_enc_stream.specs.Streams.{Progress, at_start, book_of, zeros_of, picture_text, pictures_text, group_coded}
use Rattle.m2v_enc_stream.specs.Trees.{groups_of}

-- ---- one value of each picture

-- A value of picture p of a group, the headers of which begin at a bit of the stream; `ends` tells that the group is the
-- last one.
abbrev pub value_at : {A : Type 0} → (Book → List CodedPicture → Entries → Bool → ℕ → ℕ → A) → Settings → Progress → Group Samples → Bool → ℕ → A
value_at f s x g ends p =
    let b = book_of s x g in
    let done = coded b (length g.pictures) in
    let l = ledger_behind b done in
    let at = length x.text in
    f b done l ends (at + length (pictures_text b done l ends at p)) p

-- a value of each picture of a group
unfoldable pub in_group : {A : Type 0} → (Book → List CodedPicture → Entries → Bool → ℕ → ℕ → A) → Settings → Progress → Group Samples → Bool → List A
in_group f s x g ends = map (value_at f s x g ends) (range_with_len 0 (length g.pictures))

-- a value of each picture of groups behind what is coded so far, the last of them the last of all
unfoldable pub in_groups : {A : Type 0} → (Book → List CodedPicture → Entries → Bool → ℕ → ℕ → A) → Settings → Progress → List (Group Samples) → List A
in_groups f s x [] = []
in_groups f s x (g ∷ []) = in_group f s x g true
in_groups f s x (g ∷ h ∷ more) = in_group f s x g false ++ in_groups f s (group_coded s x g false) (h ∷ more)

-- a value of each picture of the stream of raw frames
abbrev pub in_stream : {A : Type 0} → (Book → List CodedPicture → Entries → Bool → ℕ → ℕ → A) → Settings → List (List ℕ) → List A
in_stream f s frames = in_groups f s (at_start s) (groups_of s frames)

-- ---- texts, bits and start codes

-- the texts of the pictures: headers, slices and zero bits
abbrev pub picture_texts : Settings → List (List ℕ) → List (List Bool)
picture_texts s frames = in_stream picture_text s frames

-- the bits of a picture with the zero bits behind it
abbrev pub bits_at : Book → List CodedPicture → Entries → Bool → ℕ → ℕ → ℕ
bits_at b done l ends at p = size_of b done p + zeros_of l ends p

-- those of all pictures
abbrev pub picture_bits : Settings → List (List ℕ) → List ℕ
picture_bits s frames = in_stream bits_at s frames

-- the bits of a picture up to the end of its start code
abbrev pub code_at : Book → List CodedPicture → Entries → Bool → ℕ → ℕ → ℕ
code_at b done l ends at p = bits_to_code (job_at b p)

-- that of all pictures
abbrev pub picture_codes : Settings → List (List ℕ) → List ℕ
picture_codes s frames = in_stream code_at s frames

-- where the start code of a picture ends in the stream, its headers beginning at a bit
abbrev pub place_at : Book → List CodedPicture → Entries → Bool → ℕ → ℕ → ℕ
place_at b done l ends at p = at + bits_to_code (job_at b p)

-- that of all start codes
abbrev pub code_places : Settings → List (List ℕ) → List ℕ
code_places s frames = in_stream place_at s frames

-- the bits of the pictures of groups, where the last of all has the sequence end code too
unfoldable pub groups_taken : Settings → Progress → List (Group Samples) → List ℕ
groups_taken s x [] = []
groups_taken s x (g ∷ []) =
    let last = length g.pictures - 1 in
    map (value_at bits_at s x g true) (range_with_len 0 last) ++ (value_at bits_at s x g true last + 32) ∷ []
groups_taken s x (g ∷ h ∷ more) = in_group bits_at s x g false ++ groups_taken s (group_coded s x g false) (h ∷ more)

-- those of the stream of raw frames
abbrev pub Taken : Settings → List (List ℕ) → List ℕ
Taken s frames = groups_taken s (at_start s) (groups_of s frames)

-- where start codes end, behind so many bits: those of pictures of these bits, in each of which it ends at a bit
unfoldable pub ends_of : ℕ → List ℕ → List ℕ → List ℕ
ends_of at [] cs = []
ends_of at (b ∷ bs) [] = []
ends_of at (b ∷ bs) (c ∷ cs) = (at + c) ∷ ends_of (at + b) bs cs
