-- The first pieces of a text, taken for a text.
use Rattle.std.proofs.Common.{◌≡◌, ◌⊎◌, ℕ, zero, suc, ◌+◌, ◌-◌, ◌*◌, ◌<◌, ◌≤◌, Bool, true, false, List, [], ◌∷◌, ◌++◌, length, take, drop, Option, Some, None, inl, inr, refl, sym, ap, subst, ◌∙◌, append_assoc, arith}
use Rattle.std.specs.Prelude.{nat_eq, ◌&&◌, ◌||◌, if◌then◌else◌}
use Rattle.std.proofs.lemmas.Bool.{cases_Bool, eqb-true}
use Rattle.std.proofs.lemmas.List.{append-nil, length-append}
use Rattle.m2v_model.specs.declared.phase.Phase.{Phase}
use Rattle.m2v_model.specs.declared.phase.Phase.TheVariants.{Before, Headers, Picture}
use Rattle.m2v_model.specs.Units.{Units, cut, joined, AreUnits}
use Rattle.m2v_model.specs.Streams.{value_of}
use Rattle.m2v_model.specs.Pieces.{phase_after, begins_piece, is_end, piece_of, grouped, pieces}
use Rattle.m2v_model.proofs.CutLaws.{cut_cuts, cut_units, are_before, are_behind, are_code}
use Rattle.m2v_model.proofs.ShiftLaws.{BeginsPiece, NoEnds}
use Rattle.m2v_model.proofs.PieceLaws.{value_code, sequence_goes}
use Rattle.m2v_law_group.specs.Groups.{is_sequence, from_sequence, to_end, stream_units}
use Rattle.m2v_cut.specs.Answers.{of_pieces}
use Rattle.m2v_cut.proofs.Shapes.{Splits, BeginsSequence, pieces_split, begins_sequence}
use Rattle.m2v_cut.proofs.Fulls.{before_split}

-- ---- units up to the end code, and that code

unfoldable pub with_end : Units → Units
with_end [] = []
with_end (u ∷ us) = if is_end (value_of u) then take 4 u ∷ [] else u ∷ with_end us

of_one : (bytes : List ℕ) → of_pieces (piece_of bytes) ≡ bytes
of_one [] = refl
of_one (b ∷ bs) = append-nil (b ∷ bs)

headers_bytes : (c : Bool) (bytes u : List ℕ) (us : Units) (phase : Phase) → of_pieces (grouped phase (bytes ++ u) us) ≡ (bytes ++ u) ++ joined (with_end us)
    → of_pieces (if c then (bytes ++ take 4 u) ∷ [] else grouped phase (bytes ++ u) us) ≡ bytes ++ joined (if c then take 4 u ∷ [] else u ∷ with_end us)
headers_bytes true bytes u us phase ih = append_assoc bytes (take 4 u) []
headers_bytes false bytes u us phase ih = ih ∙ append_assoc bytes u (joined (with_end us))

picture_bytes : (c d : Bool) (bytes u : List ℕ) (us : Units) (phase : Phase) → of_pieces (grouped phase u us) ≡ u ++ joined (with_end us) → of_pieces (grouped Picture (bytes ++ u) us) ≡ (bytes ++ u) ++ joined (with_end us)
    → of_pieces (if c then bytes ∷ take 4 u ∷ [] else if d then bytes ∷ grouped phase u us else grouped Picture (bytes ++ u) us) ≡ bytes ++ joined (if c then take 4 u ∷ [] else u ∷ with_end us)
picture_bytes true d bytes u us phase a b = refl
picture_bytes false true bytes u us phase a b = ap (λ (l : List ℕ). bytes ++ l) a
picture_bytes false false bytes u us phase a b = b ∙ append_assoc bytes u (joined (with_end us))

-- a piece has begun
abbrev IsIn : Phase → Type 0
IsIn Before = ⊥
IsIn Headers = Unit {0}
IsIn Picture = Unit {0}

after_in : (c : Bool) → IsIn (if c then Picture else Headers)
after_in true = tt
after_in false = tt

grouped_bytes : (us : Units) (phase : Phase) (bytes : List ℕ) → IsIn phase → of_pieces (grouped phase bytes us) ≡ bytes ++ joined (with_end us)
unfolding grouped with_end phase_after
grouped_bytes us Before bytes h = absurd h
grouped_bytes [] Headers bytes h = of_one bytes ∙ sym (append-nil bytes)
grouped_bytes [] Picture bytes h = of_one bytes ∙ sym (append-nil bytes)
grouped_bytes (u ∷ us) Headers bytes h =
    headers_bytes (is_end (value_of u)) bytes u us (phase_after Headers (value_of u)) (grouped_bytes us (phase_after Headers (value_of u)) (bytes ++ u) (after_in (nat_eq (value_of u) 0x00)))
grouped_bytes (u ∷ us) Picture bytes h =
    picture_bytes (is_end (value_of u)) (begins_piece (value_of u)) bytes u us (phase_after Headers (value_of u)) (grouped_bytes us (phase_after Headers (value_of u)) u (after_in (nat_eq (value_of u) 0x00)))
    (grouped_bytes us Picture (bytes ++ u) tt)

sequence_bytes : (c : Bool) (u : List ℕ) (us : Units) → is_sequence u ≡ c → of_pieces (grouped Before [] us) ≡ joined (with_end (from_sequence us)) → of_pieces (if c then grouped Headers u us else grouped Before [] us) ≡ joined (with_end (if c then u ∷ us else from_sequence us))
unfolding with_end
sequence_bytes true u us on ih = rw (sequence_goes (value_of u) on) (grouped_bytes us Headers u tt)
sequence_bytes false u us on ih = ih

pub text_bytes : (us : Units) → of_pieces (grouped Before [] us) ≡ joined (with_end (from_sequence us))
unfolding grouped from_sequence with_end
text_bytes [] = refl
text_bytes (u ∷ us) = sequence_bytes (is_sequence u) u us refl (text_bytes us)

pub are_ended : (xs us : Units) → AreUnits (xs ++ us) → AreUnits (xs ++ with_end us)
unfolding with_end
are_ended xs [] h = h
are_ended xs (u ∷ us) h = elim (cases_Bool (is_end (value_of u))) [
  | inl on ↦ rw on (are_code xs us u h)
  | inr off ↦ rw off (subst AreUnits (append_assoc xs (u ∷ []) (with_end us)) (are_ended (xs ++ u ∷ []) us (subst AreUnits (sym (append_assoc xs (u ∷ []) us)) h)))
]

end_case : (c : Bool) (u : List ℕ) (us : Units) → is_end (value_of u) ≡ c → to_end (with_end us) ≡ to_end us → to_end (if c then take 4 u ∷ [] else u ∷ with_end us) ≡ (if c then [] else u ∷ to_end us)
unfolding to_end
end_case true u us on ih = let e : is_end (value_of (take 4 u)) ≡ true = ap is_end (value_code u) ∙ on in rw e refl
end_case false u us off ih = rw off (ap (λ (l : Units). u ∷ l) ih)

pub ended_same : (us : Units) → to_end (with_end us) ≡ to_end us
unfolding with_end to_end
ended_same [] = refl
ended_same (u ∷ us) = end_case (is_end (value_of u)) u us refl (ended_same us)

-- ---- units of a stream

pub from_first : (us : Units) → BeginsSequence us → from_sequence us ≡ us
unfolding from_sequence
from_first [] b = refl
from_first (u ∷ us) b = rw b refl

pub from_begins : (us : Units) → BeginsSequence (from_sequence us)
unfolding from_sequence
from_begins [] = tt
from_begins (u ∷ us) = elim (cases_Bool (is_sequence u)) [
  | inl on ↦ rw on on
  | inr off ↦ rw off (from_begins us)
]

pub ended_begins : (us : Units) → BeginsSequence us → BeginsSequence (with_end us)
unfolding with_end
ended_begins [] b = tt
ended_begins (u ∷ us) b = rw (sequence_goes (value_of u) b) b

pub are_from : (us : Units) → AreUnits us → AreUnits (from_sequence us)
unfolding from_sequence
are_from [] h = h
are_from (u ∷ us) h = elim (cases_Bool (is_sequence u)) [
  | inl on ↦ rw on h
  | inr off ↦ rw off (are_from us h.3)
]

-- units up to the end code, and those behind
pub record Ended (us : Units) : Type 0 where
  pub behind : Units
  pub is : us ≡ to_end us ++ behind
  pub none : NoEnds (to_end us)

pub ended : (us : Units) → Ended us
unfolding to_end
ended [] = record { behind = []; is = refl; none = tt }
ended (u ∷ us) = elim (cases_Bool (is_end (value_of u))) [
  | inl on ↦
      let e : to_end (u ∷ us) ≡ [] = rw on refl in
      record { behind = u ∷ us; is = ap (λ (l : Units). l ++ u ∷ us) (sym e); none = subst NoEnds (sym e) tt }
  | inr off ↦
      let r = ended us in
      let e : to_end (u ∷ us) ≡ u ∷ to_end us = rw off refl in
      record { behind = r.behind; is = ap (λ (l : Units). u ∷ l) r.is ∙ ap (λ (l : Units). l ++ r.behind) (sym e); none = subst NoEnds (sym e) (off, r.none) }
]

pub end_none : (us : Units) → NoEnds us → to_end us ≡ us
unfolding to_end
end_none [] n = refl
end_none (u ∷ us) n = rw n.0 (ap (λ (l : Units). u ∷ l) (end_none us n.1))

pub none_before : (us vs : Units) → NoEnds (us ++ vs) → NoEnds us
none_before [] vs n = tt
none_before (u ∷ us) vs n = (n.0, none_before us vs n.1)

pub begins_front : (us vs : Units) → BeginsSequence (us ++ vs) → BeginsSequence us
begins_front [] vs b = tt
begins_front (u ∷ us) vs b = b

pub are_stream : (text : List ℕ) → AreUnits (stream_units text)
are_stream text =
    let us : Units = from_sequence (cut 0 text).1 in
    let e = ended us in
    are_before (to_end us) e.behind (subst AreUnits e.is (are_from (cut 0 text).1 (cut_cuts text).are_units))

-- units of a stream are those of the text that they make
pub stream_joined : (us : Units) → AreUnits us → BeginsSequence us → NoEnds us → stream_units (joined us) ≡ us
stream_joined us are b none = ap (λ (l : Units). to_end (from_sequence l)) (cut_units us are) ∙ ap to_end (from_first us b) ∙ end_none us none

-- all pieces of a text have its units
pub stream_all : (text : List ℕ) → stream_units (of_pieces (pieces text)) ≡ stream_units text
stream_all text =
    let us : Units = from_sequence (cut 0 text).1 in
    let are : AreUnits (with_end us) = are_ended [] us (are_from (cut 0 text).1 (cut_cuts text).are_units) in
    ap stream_units (text_bytes (cut 0 text).1)
    ∙ ap (λ (l : Units). to_end (from_sequence l)) (cut_units (with_end us) are)
    ∙ ap to_end (from_first (with_end us) (ended_begins us (from_begins (cut 0 text).1)))
    ∙ ended_same us

-- ---- the first pieces

-- the first pieces of a text are those of the text that they make
pub first_splits : (text : List ℕ) (first others : List (List ℕ)) → pieces text ≡ first ++ others → Splits first (stream_units (of_pieces first))
first_splits text first [] e =
    let all : pieces text ≡ first = e ∙ append-nil first in
    subst (λ (ps : List (List ℕ)). Splits ps (stream_units (of_pieces ps))) all
    (subst (Splits (pieces text)) (sym (stream_all text)) (pieces_split text))
first_splits text first (q ∷ qs) e =
    let s : Splits (first ++ q ∷ qs) (stream_units text) = subst (λ (ps : List (List ℕ)). Splits ps (stream_units text)) e (pieces_split text) in
    let f = before_split first q qs (stream_units text) s in
    let are : AreUnits f.front = are_before f.front f.behind (subst AreUnits f.is (are_stream text)) in
    let b : BeginsSequence f.front = begins_front f.front f.behind (subst BeginsSequence f.is (begins_sequence text)) in
    let none : NoEnds f.front = none_before f.front f.behind (subst NoEnds f.is (ended (from_sequence (cut 0 text).1)).none) in
    let is : stream_units (of_pieces first) ≡ f.front = ap stream_units f.whole ∙ stream_joined f.front are b none in
    subst (Splits first) (sym is) f.own
