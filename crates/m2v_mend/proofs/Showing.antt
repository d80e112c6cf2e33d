-- What a strand shows and what its first header is, by what its reader has counted.
use Rattle.std.proofs.Common.{◌≡◌, inl, inr, ℕ, ◌*◌, Bool, cond, List, [], ◌∷◌, ◌++◌, length, Ok, Err, sym, ap, ◌∙◌, arith}
use Rattle.std.specs.Prelude.{◌≤◌, option_to_list}
use Rattle.std.proofs.lemmas.List.{length-append, length-map}
use Rattle.m2v_model.specs.declared.fault.FaultKind.TheVariants.{FieldPair}
use Rattle.m2v_model.specs.declared.state.State.{State}
use Rattle.m2v_model.specs.Units.{Units}
use Rattle.m2v_model.specs.Pictures.{Events, pictures_in}
use Rattle.m2v_model.specs.Decoding.{low_delay_of, shown}
use Rattle.m2v_model.specs.ByPieces.{Between, at_start, units_read}
use Rattle.m2v_law_seam.specs.Spans.{units_of}
use Rattle.m2v_law_seam.specs.Strands.{first_in, frames_in}
use Rattle.m2v_law_seam.specs.Strands as strands
use Rattle.m2v_law_seam.specs.Reading.{ended_read, CanGrow, HasRead}
use Rattle.m2v_law_seam.proofs.ByUnits.{read_alone}
use Rattle.m2v_law_seam.proofs.Strand.{strand_units}
use Rattle.m2v_model.proofs.CutLaws.{cut_units}
use Rattle.m2v_decode.specs.Decoding.{between}
use Rattle.m2v_decode.proofs.Ordering.{shown_is, agrees}
use Rattle.m2v_mend.specs.Strand.{StrandState, IsAt}

-- what is read of its bytes with an end code
some_read : (bytes : List ℕ) (us : Units) (es : Events) (b : Between) (h : List ℕ) (pm : Units) → us ≡ h ∷ pm → HasRead us es b → units_read at_start us ≡ Ok (es, b)
some_read bytes [] es b h pm e r = absurd cc
some_read bytes (u ∷ us) es b h pm e r = r.1

pub read_is : (s : StrandState) (bytes : List ℕ) → (at : IsAt s bytes) → 1 ≤ length bytes → strands.read_of bytes ≡ Ok (at.events, between at.decoder)
read_is s bytes at some = by_growth at.can
  where
    by_growth : CanGrow bytes → strands.read_of bytes ≡ Ok (at.events, between at.decoder)
    by_growth (inl e) = absurd (omega (arith, some, ap length e))
    by_growth (inr g) =
        let x = strand_units bytes g.0 g.1 g.2 in
        let own : units_of bytes ≡ x.h ∷ x.pm = ap units_of x.whole ∙ cut_units (x.h ∷ x.pm) x.are in
        let read = some_read bytes (units_of bytes) at.events (between at.decoder) x.h x.pm own (at.come).has in
        read_alone bytes g.0 g.1 g.2 ∙ ap (ended_read (8 * length bytes)) read
        ∙ ap (λ (w : Bool). cond w (Ok (at.events, between at.decoder)) (Err (FieldPair, 8 * length bytes))) at.paired

pub first_is : (s : StrandState) (bytes : List ℕ) → IsAt s bytes → 1 ≤ length bytes → s.reading.state.first ≡ first_in (strands.read_of bytes)
first_is s bytes at some = ap (λ (x : State). x.first) (sym (at.follows).state) ∙ ap first_in (sym (read_is s bytes at some))

pub frames_are : (s : StrandState) (bytes : List ℕ) → IsAt s bytes → 1 ≤ length bytes → s.reading.frames ≡ frames_in (strands.read_of bytes)
frames_are s bytes at some =
    let d = at.decoder in
    let low = low_delay_of d.state.first in
    let ps = pictures_in at.events in
    let all : length (d.ready ++ option_to_list d.anchor) ≡ length (shown low ps) =
    sym (length-map (d.ready ++ option_to_list d.anchor) _) ∙ ap length (shown_is low ps d.anchor d.ready ((at.come).shows low (agrees d.state.first))) in
    let parts = length-append d.ready (option_to_list d.anchor) in
    let counted = (at.follows).frames in
    let none = (at.come).shown in
    let number : s.reading.frames ≡ length (shown low ps) = omega (arith, all, parts, counted, none) in
    number ∙ ap frames_in (sym (read_is s bytes at some))
