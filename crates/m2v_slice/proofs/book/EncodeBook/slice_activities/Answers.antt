use Rattle.std.proofs.Common.{sym, ap, subst, ◌∙◌, refl, inl}
use Rattle.m2v_plane.specs.declared.dims.Dims.{Dims}
use Rattle.m2v_set.specs.declared.settings.Settings.{Settings}
use Rattle.m2v_set.specs.Numbers.{dims_of}
use Rattle.m2v_slice.specs.Laws.{AreSliceActivities}
use Rattle.m2v_slice.proofs.Parts.{no_row, has_row}
use Rattle.m2v_slice.proofs.book.EncodeBook.slice_activities.Goals as goal

pub part_of-requires : goal.part_of-requires
part_of-requires c =
    let h = has_row c.args.self.now c.pictures-pictures.ensures.book c.args.p c.args.r c.rows.result c.dims-columns.result.mb_width c.activities.result.now
    (ap (λ (s : Settings). s.planning) (sym (c.settings-2.ensures.value ∙ c.settings.ensures.value)) ∙ c.in-Even.is)
    c.activities.ensures.value c.activities.ensures.range c.requires.picture c.requires.row c.rows.ensures.value
    (ap (λ (d : Dims). d.mb_width) c.dims-columns.ensures.value ∙ ap (λ (s : Settings). (dims_of s).mb_width) c.settings-in-Even.ensures.value) in
    record { within = h.within }

pub returns-in-Weights : goal.returns-in-Weights
returns-in-Weights c = record {
  value = no_row c.args.self.now c.args.p c.args.r (ap (λ (s : Settings). s.planning) (sym (c.settings-2.ensures.value ∙ c.settings.ensures.value)) ∙ c.in-Weights.is);
  range = inl refl;
}

pub returns-in-Even : goal.returns-in-Even
returns-in-Even c =
    let h = has_row c.args.self.now c.pictures-pictures.ensures.book c.args.p c.args.r c.rows.result c.dims-columns.result.mb_width c.activities.result.now
    (ap (λ (s : Settings). s.planning) (sym (c.settings-2.ensures.value ∙ c.settings.ensures.value)) ∙ c.in-Even.is)
    c.activities.ensures.value c.activities.ensures.range c.requires.picture c.requires.row c.rows.ensures.value
    (ap (λ (d : Dims). d.mb_width) c.dims-columns.ensures.value ∙ ap (λ (s : Settings). (dims_of s).mb_width) c.settings-in-Even.ensures.value) in
    let value = c.part_of.ensures.value ∙ h.is in
    record { value = value; range = subst (AreSliceActivities (dims_of c.args.self.now.settings).mb_width) (sym value) h.range }
