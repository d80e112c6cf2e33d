use Rattle.std.proofs.Common.{refl, sym, ap, subst, ◌∙◌, ◌*◌, ◌/◌, ℕ}
use Rattle.m2v_model.specs.Units.{Units, unit_bits}
use Rattle.m2v_law_group.specs.Groups.{to_end}
use Rattle.m2v_mend.specs.Feeding.{from_end}
use Rattle.m2v_mend.specs.Telling.{IsCounted, SlicesFrom}
use Rattle.m2v_mend.proofs.PartLaws.{extent_is}
use Rattle.m2v_mend.proofs.SliceUnits.{piece_slices}
use Rattle.m2v_mend.proofs.feed.measured.Goals as goal

pub count-behind-requires : goal.count-behind-requires
count-behind-requires c =
    subst (SlicesFrom (8 * c.saturating_sub-sliced.result)) (sym c.units-2.ensures.value)
    (piece_slices c.args.piece.now c.requires.sound c.args.slices c.saturating_sub-sliced.result (8 * c.saturating_sub-sliced.result) c.requires.slices c.saturating_sub-sliced.ensures refl)

pub returns : goal.returns
returns c =
    let is = extent_is _ c.left-all.result c.count-behind.result.1 (c.left-all.ensures.value ∙ ap unit_bits c.units.ensures.value) (c.count-behind.ensures.behind ∙ ap (λ us. unit_bits (from_end us)) c.units-2.ensures.value) in
    record {
      units = is.0;
      own = ap (λ (n : ℕ). n / 8) c.saturating_sub.ensures ∙ is.1;
      counted = subst (λ (us : Units). IsCounted (to_end us) c.count-behind.result.0) c.units-2.ensures.value c.count-behind.ensures.counted;
    }
