use Rattle.std.proofs.Common.{refl, ap, sym, ◌∙◌}
use Rattle.m2v_tool.specs.EncodeWords.{meant_of, scan_named, scan_in, level_named, level_in, plan_named, plan_in}
use Rattle.m2v_tool.proofs.meant.meant_of.Goals as goal

pub returns : goal.returns
unfolding meant_of scan_in level_in plan_in
returns c =
    let scan = sym (c.scan_named.ensures ∙ ap scan_named c.text_or.ensures) ∙ c.in-Some.is in
    let level = sym (c.level_named.ensures ∙ ap level_named c.text_or-2.ensures) ∙ c.in-Some-level_named.is in
    let plan = sym (c.plan_named.ensures ∙ ap plan_named c.text_or-3.ensures) ∙ c.in-Some-plan_named.is in
    rw (scan, level, plan, c.settings_of.ensures, c.in_ok-recon.ensures) refl
