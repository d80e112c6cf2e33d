-- A mended text is mended already.
use Rattle.std.proofs.Common.{◌≡◌, ℕ, Bool, true, false, List, [], ◌∷◌, ◌++◌, Some, inl, refl, sym, ap, subst, ◌∙◌}
use Rattle.m2v_model.specs.Units.{Units, cut, joined, Cuts}
use Rattle.m2v_model.specs.Decoding.{Decodes}
use Rattle.m2v_model.specs.Pieces.{is_end}
use Rattle.m2v_model.specs.Streams.{value_of}
use Rattle.m2v_model.proofs.CutLaws.{cuts_is}
use Rattle.m2v_model.proofs.ShiftLaws.{NoEnds}
use Rattle.m2v_law_group.specs.Groups.{from_sequence, to_end, stream_units, end_code}
use Rattle.m2v_law_group.specs.Chosen.{EndClear}
use Rattle.m2v_law_group.proofs.Texts as texts
use Rattle.std.specs.Prelude.{not, ◌&&◌, ◌||◌}
use Rattle.m2v_law_seam.specs.Spans.{is_entry, is_anchor_piece, is_second, spans, steps}
use Rattle.m2v_law_seam.specs.Mending.{strands}
use Rattle.m2v_law_seam.specs.Mends.{in_turn, StartsClear, EndsOnce, MendTwice}
use Rattle.m2v_law_seam.proofs.Strand.{StrandUnits, code_behind}
use Rattle.m2v_law_seam.proofs.Fold.{mended_as}
use Rattle.m2v_law_seam.proofs.Whole.{same_by_test, by_entries, by_frames, own_first, end_later, end_here}
use Rattle.m2v_law_seam.proofs.Same.{IsByFrames}
use Rattle.m2v_law_seam.proofs.Tame.{by_test}

-- ---- units with one end code, behind them

ends_once : (us : Units) → NoEnds us → EndsOnce (us ++ end_code ∷ [])
ends_once [] n = (λ on. refl, tt)
ends_once (u ∷ us) n = (λ on. let wrong : true ≡ false = sym on ∙ n.0 in absurd cc, ends_once us n.1)

pub up_to_end : (us : Units) (e : List ℕ) → NoEnds us → is_end (value_of e) ≡ true → to_end (us ++ e ∷ []) ≡ us
up_to_end [] e n on = end_here e [] on
up_to_end (u ∷ us) e n on = end_later u (us ++ e ∷ []) n.0 ∙ ap (λ (l : Units). u ∷ l) (up_to_end us e n.1 on)

-- ---- the last byte

abbrev last_byte : ℕ → List ℕ → ℕ
last_byte b [] = b
last_byte b (c ∷ bytes) = last_byte c bytes

last_behind : (b c : ℕ) (xs ys : List ℕ) → last_byte b (xs ++ c ∷ ys) ≡ last_byte c ys
last_behind b c [] ys = refl
last_behind b c (x ∷ xs) ys = last_behind x c xs ys

two_bytes : (n : ℕ) → n ≡ 0xB7 → n ≡ 0x01 → ⊥
two_bytes n p q = absurd cc

code_clear : (bytes : List ℕ) → EndClear (bytes ++ end_code)
code_clear bytes front e =
    two_bytes (last_byte 0 (bytes ++ end_code)) (last_behind 0 0x00 bytes (0x00 ∷ 0x01 ∷ 0xB7 ∷ []))
    (ap (last_byte 0) e ∙ last_behind 0 0x00 front (0x00 ∷ 0x01 ∷ []))

-- ---- the law

-- bytes of a stream, with its end code
record IsWhole (bytes : List ℕ) : Type 0 where
  starts : StartsClear (cut 0 bytes).1
  once : EndsOnce (cut 0 bytes).1
  clear : EndClear bytes
  same : joined (stream_units bytes) ++ end_code ≡ bytes

whole_by : (own : List ℕ) (u : StrandUnits own) → IsWhole (own ++ end_code)
whole_by own u =
    let us = u.h ∷ u.pm in
    let cuts : Cuts (own ++ end_code) [] (us ++ end_code ∷ []) = subst (λ (l : List ℕ). Cuts (l ++ end_code) [] (us ++ end_code ∷ [])) (sym u.whole) (texts.cut_cuts us u.ended) in
    let units : (cut 0 (own ++ end_code)).1 ≡ us ++ end_code ∷ [] = ap (λ (x : List ℕ × Units). x.1) (cuts_is (own ++ end_code) [] (us ++ end_code ∷ []) cuts) in
    let stream : stream_units (own ++ end_code) ≡ us = ap (λ (l : Units). to_end (from_sequence l)) units ∙ ap to_end (own_first u.h (u.pm ++ end_code ∷ []) u.is) ∙ up_to_end us end_code u.goes code_behind in
    record {
      starts = subst StartsClear (sym units) (inl u.is);
      once = subst EndsOnce (sym units) (ends_once us u.goes);
      clear = code_clear own;
      same = ap (λ (l : Units). joined l ++ end_code) stream ∙ ap (λ (l : List ℕ). l ++ end_code) (sym u.whole);
    }

pub twice_by_test : (test : ℕ → List ℕ → Bool) → IsByFrames test → (text : List ℕ) → MendTwice (by_test test) text
twice_by_test test by text bytes e within =
    let x = mended_as (by_test test) text bytes e in
    let m = x.made in
    let w : IsWhole bytes = subst IsWhole x.text (whole_by (joined (strands (by_test test) text)) m.units) in
    let d : Decodes bytes (in_turn m.shown) = subst (λ (l : List ℕ). Decodes l (in_turn m.shown)) x.text m.all in
    let same = same_by_test test by bytes d.tree d.stream w.starts w.once within w.clear in
    (same.0 ∙ ap Some w.same, same.1)

pub mend_twice : (text : List ℕ) → MendTwice spans text
mend_twice text = twice_by_test (λ waiting p. is_entry p) by_entries text

pub mend_twice_steps : (text : List ℕ) → MendTwice steps text
mend_twice_steps text = twice_by_test (λ waiting p. is_entry p || (is_anchor_piece p && not (is_second waiting p))) by_frames text
