use Rattle.std.proofs.Common.{◌≡◌, false, true, sym, subst, ◌∙◌}
use Rattle.m2v_set.specs.Rules.{Passes}
use Rattle.m2v_make.specs.Making.{stream_of}
use Rattle.m2v_make.proofs.SettingsLaws.{settings_pass}
use Rattle.m2v_make.proofs.CodedLaws.{left_new, grown_by, numbers_by, text_of}
use Rattle.m2v_make.proofs.MadeLaws.{still, coding_stops_by}
use Rattle.m2v_make.proofs.whole.coded.Goals as goal

pub returns-in-Ok-encode-clause-text : goal.returns-in-Ok-encode-clause-text
returns-in-Ok-encode-clause-text g c =
    text_of c.args.stream.now c.encode.new.output (stream_of c.args.seed) c.requires.none
    (grown_by c.args.seed _ _ _ _ (left_new c.new-frames.result c.args.seed c.new-frames.ensures) c.in-Ok.settings (c.in-Ok.ensures.same ∙ c.make_settings.ensures) c.in-Ok-encode.ensures.ok)

pub returns-in-Ok-encode-clause-numbers : goal.returns-in-Ok-encode-clause-numbers
returns-in-Ok-encode-clause-numbers g c =
    numbers_by c.args.seed _ _ _ _ (left_new c.new-frames.result c.args.seed c.new-frames.ensures) c.in-Ok.settings (c.in-Ok.ensures.same ∙ c.make_settings.ensures) c.in-Ok-encode.ensures.ok

pub unreachable-requires : goal.unreachable-requires
unreachable-requires g c =
    let none : false ≡ true = c.in_default.ensures.passes.1 (subst Passes (sym c.make_settings.ensures) settings_pass) in
    cc

pub coding_memory-requires : goal.coding_memory-requires
coding_memory-requires g c =
    coding_stops_by c.args.seed c.in-Ok.settings _ _ c.in-Err.e (c.in-Ok.ensures.same ∙ c.make_settings.ensures)
    (left_new c.new-frames.result c.args.seed c.new-frames.ensures) still still c.in-Err.ensures.err
