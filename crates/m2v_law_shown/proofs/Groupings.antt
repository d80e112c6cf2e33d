-- Units of pictures one behind another, as they are grouped into pieces.
use Rattle.std.proofs.Common.{◌≡◌, ℕ, true, false, List, [], ◌∷◌, ◌++◌, map, take, refl, sym, ap, ◌∙◌, append_assoc}
use Rattle.std.specs.Prelude.{All, slice_index}
use Rattle.std.proofs.lemmas.Bool.{cond-true, cond-false}
use Rattle.std.proofs.lemmas.List.{append-nil}
use Rattle.std.proofs.lemmas.List.Elements.{All-head, All-tail}
use Rattle.m2v_model.specs.declared.phase.Phase.TheVariants.{Before, Picture}
use Rattle.m2v_model.specs.Units.{Units, joined}
use Rattle.m2v_model.specs.Pieces.{grouped, phase_after, begins_piece, is_end}

-- ---- units inside a picture

-- a unit that begins no piece, and is no sequence end code
pub record IsInner (u : List ℕ) : Type 0 where
  pub goes : is_end (slice_index u 3) ≡ false
  pub inner : begins_piece (slice_index u 3) ≡ false

inner_step : (u bytes : List ℕ) (us : Units) → IsInner u → grouped Picture bytes (u ∷ us) ≡ grouped Picture (bytes ++ u) us
unfolding grouped
inner_step u bytes us h =
    cond-false (is_end (slice_index u 3)) _ _ h.goes
    ∙ cond-false (begins_piece (slice_index u 3)) _ _ h.inner

pub inner_on : (us : Units) (bytes : List ℕ) (rest : Units) → All IsInner us → grouped Picture bytes (us ++ rest) ≡ grouped Picture (bytes ++ joined us) rest
inner_on [] bytes rest h = ap (λ (b : List ℕ). grouped Picture b rest) (sym (append-nil bytes))
inner_on (u ∷ us) bytes rest h =
    inner_step u bytes (us ++ rest) (All-head IsInner u us h)
    ∙ inner_on us (bytes ++ u) rest (All-tail IsInner u us h)
    ∙ ap (λ (b : List ℕ). grouped Picture b rest) (append_assoc bytes u (joined us))

-- ---- the units of a picture

-- behind a picture, these units are a piece
pub record IsPiece (us : Units) : Type 0 where
  pub begins : (bytes : List ℕ) (rest : Units) → grouped Picture bytes (us ++ rest) ≡ bytes ∷ grouped Picture (joined us) rest

-- these units are the first piece
pub record IsFirst (us : Units) : Type 0 where
  pub begins : (rest : Units) → grouped Before [] (us ++ rest) ≡ grouped Picture (joined us) rest

-- a unit by its value
abbrev pub by_value : ℕ → List ℕ → List ℕ
by_value value t = 0 ∷ 0 ∷ 1 ∷ value ∷ t

pub plain_piece : (p c : List ℕ) (slices : Units) → All IsInner slices → IsPiece (by_value 0x00 p ∷ by_value 0xB5 c ∷ slices)
unfolding grouped phase_after begins_piece is_end
plain_piece p c slices h = record {
  begins = λ bytes rest. ap (λ (x : List (List ℕ)). bytes ∷ x)
      (inner_on slices (by_value 0x00 p ++ by_value 0xB5 c) rest h
      ∙ ap (λ (b : List ℕ). grouped Picture b rest) (append_assoc (by_value 0x00 p) (by_value 0xB5 c) (joined slices)));
}

six : (a b c d e f : List ℕ) → ((((a ++ b) ++ c) ++ d) ++ e) ++ f ≡ a ++ (b ++ (c ++ (d ++ (e ++ f))))
six a b c d e f =
    append_assoc (((a ++ b) ++ c) ++ d) e f
    ∙ append_assoc ((a ++ b) ++ c) d (e ++ f)
    ∙ append_assoc (a ++ b) c (d ++ (e ++ f))
    ∙ append_assoc a b (c ++ (d ++ (e ++ f)))

-- the headers of a group, and those of a picture
abbrev group_headers : List ℕ → List ℕ → List ℕ → List ℕ → List ℕ → Units → Units
group_headers s e g p c slices = by_value 0xB3 s ∷ by_value 0xB5 e ∷ by_value 0xB8 g ∷ by_value 0x00 p ∷ by_value 0xB5 c ∷ slices

headers_on : (s e g p c : List ℕ) (slices rest : Units) → All IsInner slices
    → grouped Picture ((((by_value 0xB3 s ++ by_value 0xB5 e) ++ by_value 0xB8 g) ++ by_value 0x00 p) ++ by_value 0xB5 c) (slices ++ rest) ≡ grouped Picture (joined (group_headers s e g p c slices)) rest
headers_on s e g p c slices rest h =
    inner_on slices ((((by_value 0xB3 s ++ by_value 0xB5 e) ++ by_value 0xB8 g) ++ by_value 0x00 p) ++ by_value 0xB5 c) rest h
    ∙ ap (λ (b : List ℕ). grouped Picture b rest) (six (by_value 0xB3 s) (by_value 0xB5 e) (by_value 0xB8 g) (by_value 0x00 p) (by_value 0xB5 c) (joined slices))

pub group_piece : (s e g p c : List ℕ) (slices : Units) → All IsInner slices → IsPiece (group_headers s e g p c slices)
unfolding grouped phase_after begins_piece is_end
group_piece s e g p c slices h = record { begins = λ bytes rest. ap (λ (x : List (List ℕ)). bytes ∷ x) (headers_on s e g p c slices rest h) }

pub group_first : (s e g p c : List ℕ) (slices : Units) → All IsInner slices → IsFirst (group_headers s e g p c slices)
unfolding grouped phase_after begins_piece is_end
group_first s e g p c slices h = record { begins = λ rest. headers_on s e g p c slices rest h }

-- ---- pictures one behind another

unfoldable pub all_of : List Units → Units
all_of [] = []
all_of (v ∷ vs) = v ++ all_of vs

pub all_of_append : (vs ws : List Units) → all_of (vs ++ ws) ≡ all_of vs ++ all_of ws
unfolding all_of
all_of_append [] ws = refl
all_of_append (v ∷ vs) ws = ap (λ (us : Units). v ++ us) (all_of_append vs ws) ∙ sym (append_assoc v (all_of vs) (all_of ws))

pieces_on : (vs : List Units) (bytes e : List ℕ) → All IsPiece vs → is_end (slice_index e 3) ≡ true
    → grouped Picture bytes (all_of vs ++ e ∷ []) ≡ bytes ∷ (map joined vs ++ take 4 e ∷ [])
unfolding grouped all_of
pieces_on [] bytes e h end = cond-true (is_end (slice_index e 3)) _ _ end
pieces_on (v ∷ vs) bytes e h end =
    ap (grouped Picture bytes) (append_assoc v (all_of vs) (e ∷ []))
    ∙ (All-head IsPiece v vs h).begins bytes (all_of vs ++ e ∷ [])
    ∙ ap (λ (x : List (List ℕ)). bytes ∷ x) (pieces_on vs (joined v) e (All-tail IsPiece v vs h) end)

-- the first of them begins the first piece
abbrev pub Starts : List Units → Type 0
Starts [] = ⊥
Starts (v ∷ vs) = IsFirst v

pub starts_append : (vs ws : List Units) → Starts vs → Starts (vs ++ ws)
starts_append [] ws h = absurd h
starts_append (v ∷ vs) ws h = h

pub pieces_all : (vs : List Units) (e : List ℕ) → Starts vs → All IsPiece vs → is_end (slice_index e 3) ≡ true
    → grouped Before [] (all_of vs ++ e ∷ []) ≡ map joined vs ++ take 4 e ∷ []
unfolding all_of
pieces_all [] e first h end = absurd first
pieces_all (v ∷ vs) e first h end =
    ap (grouped Before []) (append_assoc v (all_of vs) (e ∷ []))
    ∙ first.begins (all_of vs ++ e ∷ [])
    ∙ pieces_on vs (joined v) e (All-tail IsPiece v vs h) end
