-- The texts of an input, one behind another.
use Rattle.std.proofs.Common.{◌≡◌, ℕ, ◌+◌, Bool, true, false, List, [], ◌∷◌, ◌++◌, length, take, drop, Option, Some, refl, sym, ap, ◌∙◌, append_assoc, arith}
use Rattle.std.specs.Prelude.{nat_eq, slice_index, if◌then◌else◌}
use Rattle.std.proofs.Math.Seq.{drop-append_seam}
use Rattle.std.proofs.lemmas.List.{append-nil, length-append, length-drop, take-append-drop}
use Rattle.m2v_model.specs.declared.phase.Phase.{Phase}
use Rattle.m2v_model.specs.declared.phase.Phase.TheVariants.{Before, Headers, Picture}
use Rattle.m2v_model.specs.Units.{Units, cut, joined}
use Rattle.m2v_model.specs.Pieces.{before_pieces, before_sequence, begins_piece, grouped, is_end, phase_after, piece_of, pieces}
use Rattle.m2v_model.proofs.CutLaws.{cut_cuts}
use Rattle.m2v_model.proofs.PieceLaws.{IsOpen, open_after}
use Rattle.m2v_dec_piece.specs.declared.answer.Piece.{Piece}
use Rattle.m2v_dec_piece.specs.Following.{following, following_in, text_after}
use Rattle.m2v_dec_piece.specs.Cutting.{Cutting, follows_of, left_of, open_pieces, open_start, phase_for, start_of}
use Rattle.m2v_dec_piece.specs.Stepping.{Handed}
use Rattle.m2v_dec_piece.specs.Texts.{ComesToNext, IsAllOf, ReadsOn}
use Rattle.m2v_dec_piece.proofs.PieceLaws.{before_any}

-- ---- a text is what stands before its pieces, these, and the text that follows

-- a unit's start code, and the rest of it
unit_whole : (bytes u more : List ℕ) → (bytes ++ take 4 u) ++ (drop 4 u ++ more) ≡ bytes ++ (u ++ more)
unit_whole bytes u more =
    append_assoc bytes (take 4 u) (drop 4 u ++ more)
    ∙ ap (λ (t : List ℕ). bytes ++ t) (sym (append_assoc (take 4 u) (drop 4 u) more) ∙ ap (λ (t : List ℕ). t ++ more) (take-append-drop 4 u))

none_whole : (bytes : List ℕ) → joined (piece_of bytes) ++ [] ≡ bytes ++ []
none_whole [] = refl
none_whole (b ∷ bs) = ap (λ (t : List ℕ). t ++ []) (append-nil (b ∷ bs))

headers_whole : (end : Bool) (bytes u : List ℕ) (us : Units) (rest : List (List ℕ)) → joined rest ++ following true us ≡ (bytes ++ u) ++ joined us
    → joined (if end then (bytes ++ take 4 u) ∷ [] else rest) ++ (if end then drop 4 u ++ joined us else following true us) ≡ bytes ++ (u ++ joined us)
headers_whole true bytes u us rest h = ap (λ (t : List ℕ). t ++ (drop 4 u ++ joined us)) (append-nil (bytes ++ take 4 u)) ∙ unit_whole bytes u (joined us)
headers_whole false bytes u us rest h = h ∙ append_assoc bytes u (joined us)

picture_whole : (end begins : Bool) (bytes u : List ℕ) (us : Units) (next rest : List (List ℕ)) → joined next ++ following true us ≡ u ++ joined us → joined rest ++ following true us ≡ (bytes ++ u) ++ joined us
    → joined (if end then bytes ∷ take 4 u ∷ [] else if begins then bytes ∷ next else rest) ++ (if end then drop 4 u ++ joined us else following true us) ≡ bytes ++ (u ++ joined us)
picture_whole true begins bytes u us next rest n h = ap (λ (t : List ℕ). (bytes ++ t) ++ (drop 4 u ++ joined us)) (append-nil (take 4 u)) ∙ unit_whole bytes u (joined us)
picture_whole false true bytes u us next rest n h = append_assoc bytes (joined next) (following true us) ∙ ap (λ (t : List ℕ). bytes ++ t) n
picture_whole false false bytes u us next rest n h = h ∙ append_assoc bytes u (joined us)

open_whole : (phase : Phase) (bytes : List ℕ) (us : Units) → IsOpen phase → joined (grouped phase bytes us) ++ following true us ≡ bytes ++ joined us
unfolding grouped following
open_whole Before bytes us o = absurd o
open_whole Headers bytes [] o = none_whole bytes
open_whole Picture bytes [] o = none_whole bytes
open_whole Headers bytes (u ∷ us) o =
    let v = slice_index u 3 in
    headers_whole (is_end v) bytes u us (grouped (phase_after Headers v) (bytes ++ u) us) (open_whole (phase_after Headers v) (bytes ++ u) us (open_after v))
open_whole Picture bytes (u ∷ us) o =
    let v = slice_index u 3 in
    picture_whole (is_end v) (begins_piece v) bytes u us (grouped (phase_after Headers v) u us) (grouped Picture (bytes ++ u) us) (open_whole (phase_after Headers v) u us (open_after v)) (open_whole Picture (bytes ++ u) us tt)

first_whole : (begins : Bool) (u : List ℕ) (us : Units) → before_sequence us ++ (joined (grouped Before [] us) ++ following false us) ≡ joined us
    → (if begins then [] else u ++ before_sequence us) ++ (joined (if begins then grouped Headers u us else grouped Before [] us) ++ following begins us) ≡ u ++ joined us
first_whole true u us h = open_whole Headers u us tt
first_whole false u us h = append_assoc u (before_sequence us) (joined (grouped Before [] us) ++ following false us) ∙ ap (λ (t : List ℕ). u ++ t) h

units_whole : (us : Units) → before_sequence us ++ (joined (grouped Before [] us) ++ following false us) ≡ joined us
unfolding before_sequence grouped following
units_whole [] = refl
units_whole (u ∷ us) = first_whole (nat_eq (slice_index u 3) 0xB3) u us (units_whole us)

pub text_whole : (text : List ℕ) → IsAllOf text
text_whole text =
    let front = (cut 0 text).0 in
    let us = (cut 0 text).1 in
    (cut_cuts text).whole ∙ ap (λ (t : List ℕ). front ++ t) (sym (units_whole us)) ∙ sym (append_assoc front (before_sequence us) (joined (pieces text) ++ text_after text))

-- ---- of a cutter

-- before the first sequence header what is left and what follows are those of the text
pub left_anew : (c : Cutting) (text : List ℕ) → c.begun ≡ false → c.ended ≡ false → left_of c text ≡ pieces (c.unread ++ text)
unfolding open_pieces
left_anew c text begun ended = rw (begun, ended) (before_any ((cut 0 (c.unread ++ text)).0) [] (cut 0 (c.unread ++ text)).1)

pub start_anew : (c : Cutting) (text : List ℕ) → c.begun ≡ false → c.ended ≡ false → start_of c text ≡ c.place + length (before_pieces (c.unread ++ text))
unfolding open_start
start_anew c text begun ended = rw (begun, ended) refl

pub follows_anew : (c : Cutting) (text : List ℕ) → c.begun ≡ false → c.ended ≡ false → follows_of c text ≡ text_after (c.unread ++ text)
follows_anew c text begun ended = rw (begun, ended) refl

-- behind a first sequence header what is left and what follows are all that is unread
whole_by : (begun ended : Bool) (text : List ℕ) → begun ≡ true → joined (if ended then [] else open_pieces (phase_for begun) [] text) ++ (if ended then text else following_in begun text) ≡ text
unfolding open_pieces
whole_by begun true text b = refl
whole_by begun false text b = rw b (open_whole Headers (cut 0 text).0 (cut 0 text).1 tt ∙ sym (cut_cuts text).whole)

pub left_whole : (c : Cutting) (text : List ℕ) → c.begun ≡ true → joined (left_of c text) ++ follows_of c text ≡ c.unread ++ text
left_whole c text begun = whole_by c.begun c.ended (c.unread ++ text) begun

-- ---- from one text to the next

-- one call after another
pub reads_handed : (old new : Cutting) (left left' : Option (List ℕ)) (piece : Option Piece) (rest : List ℕ) → (h : Handed old left new left' piece) → left' ≡ Some rest → ReadsOn old h.bytes new rest
reads_handed old new left left' piece rest h told = record { behind = h.behind rest told; place = h.place }

pub reads_none : (c : Cutting) (rest : List ℕ) → ReadsOn c [] c rest
reads_none c rest = record { behind = refl; place = omega arith }

pub reads_more : (old mid new : Cutting) (bytes more rest : List ℕ) → ReadsOn old bytes mid (more ++ rest) → ReadsOn mid more new rest → ReadsOn old (bytes ++ more) new rest
reads_more old mid new bytes more rest a b = record {
  behind = ap (follows_of old) (append_assoc bytes more rest) ∙ a.behind ∙ b.behind;
  place = omega (arith, a.place, b.place, length-append bytes more);
}

-- a text that ends another begins where its length says
end_at : (input front text : List ℕ) (place : ℕ) → input ≡ front ++ text → place + length text ≡ length input → text ≡ drop place input
end_at input front text place is all =
    let at : length front ≡ place = omega (arith, all, ap length is, length-append front text) in
    sym (ap (drop place) is ∙ ap (λ (n : ℕ). drop n (front ++ text)) (sym at) ∙ drop-append_seam front text)

pub comes_to_next : (input : List ℕ) (old : Cutting) (bytes : List ℕ) (new : Cutting) (rest : List ℕ) → ComesToNext input old bytes new rest
comes_to_next input old bytes new rest at on ended =
    let text = old.unread ++ (bytes ++ rest) in
    let next = new.unread ++ rest in
    let left : follows_of new rest ≡ next = rw ended refl in
    let after : next ≡ text_after text = sym left ∙ sym on.behind ∙ follows_anew old (bytes ++ rest) at.begun at.ended in
    let all : new.place + length next ≡ length input =
    omega (arith, on.place, at.within, ap length at.text, length-drop old.place input, length-append new.unread rest, length-append old.unread (bytes ++ rest), length-append bytes rest) in
    let before = joined (pieces text) in
    let ends : text ≡ (before_pieces text ++ before) ++ next =
    text_whole text ∙ sym (append_assoc (before_pieces text) before (text_after text)) ∙ ap (λ (t : List ℕ). (before_pieces text ++ before) ++ t) (sym after) in
    let whole : input ≡ (take old.place input ++ (before_pieces text ++ before)) ++ next =
    sym (take-append-drop old.place input) ∙ ap (λ (t : List ℕ). take old.place input ++ t) (sym at.text ∙ ends) ∙ sym (append_assoc (take old.place input) (before_pieces text ++ before) next) in (
      after,
      record { begun = refl; ended = refl; text = end_at input (take old.place input ++ (before_pieces text ++ before)) next new.place whole all; within = omega (arith, all) },
    )
