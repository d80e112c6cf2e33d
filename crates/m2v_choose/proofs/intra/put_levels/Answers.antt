use Rattle.std.proofs.Common.{◌≡◌, ℕ, All, [], List, arith, ap, sym, ◌∙◌, ℤ}
use Rattle.std.specs.Prelude.{slice_index_or}
use Rattle.std.proofs.lemmas.List.Elements.{All-set}
use Rattle.m2v_quant.specs.declared.kind.Levels.{Levels}
use Rattle.m2v_quant.specs.Kinds.{IsLevel}
use Rattle.m2v_quant.specs.Quantiser.{levels_of as quantised}
use Rattle.m2v_recon.specs.Macro.{kind_at, kind_of}
use Rattle.m2v_choose.specs.Trials.{intra_macroblock}
use Rattle.m2v_choose.proofs.Sums.{set_next_of}
use Rattle.m2v_choose.proofs.IntraParts.{made_by, level_there}
use Rattle.m2v_choose.proofs.intra.put_levels.Goals as goal

pub returns-clause-levels : goal.returns-clause-levels
returns-clause-levels c =
    let t = c.args._task.now in
    let m = c.args.syntax.now in
    let kinds = c.args.kinds.now in
    let n = c.args.block in
    let made = made_by t.source.now.at m.dct_field c.args.transforms.now c.requires.made in
    let kind = kind_of (kind_at kinds 0) (kind_at kinds 1) n in
    let own = c.quantise_one.ensures.value ∙ ap (λ (z : List ℤ). quantised z kind) (c.transform_at-transform.ensures ∙ made.value n c.requires.block c.requires.reached)
    ∙ sym (level_there t m kinds c.requires.task c.requires.can n c.requires.block) in
    set_next_of (λ (l : Levels). l.at) (λ (b : ℕ) (z : List ℤ). z ≡ slice_index_or (intra_macroblock t m kinds).levels b []) c.args.levels.now [] n _ (omega (arith, c.told-levels, c.requires.block)) c.requires.levels own

pub returns-clause-within : goal.returns-clause-within
returns-clause-within c = All-set (λ (l : Levels). All IsLevel l.at) c.args.levels.now c.args.block _ c.quantise_one.ensures.levels c.requires.within
