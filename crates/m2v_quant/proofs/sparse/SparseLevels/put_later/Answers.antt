use Rattle.std.proofs.Common.{◌≡◌, ◌∙◌, ◌+◌, sym, subst, length, rules, arith, set}
use Rattle.m2v_quant.specs.declared.kind.Levels.{Levels}
use Rattle.m2v_quant.specs.declared.sparse.LevelAt.{LevelAt}
use Rattle.m2v_quant.specs.Sparse.{IsClearFrom, spread}
use Rattle.m2v_quant.proofs.Kept.{clear_behind, kept_as, kept_below, kept_more, spread_kept}
use Rattle.m2v_quant.proofs.sparse.SparseLevels.put_later.Goals as goal

pub bounds-self-inside-self-inside : goal.bounds-self-inside-self-inside
bounds-self-inside-self-inside c =
    let s = c.self.inside in
    let clear = subst (λ (v : Levels). IsClearFrom c.args.position v.at) (sym c.self.view_is) c.requires.clear in
    kept_below s.first s.later s.count c.args.position c.requires.later c.requires.inside c.self.invariant clear

pub invariant_of-self : goal.invariant_of-self
invariant_of-self c =
    let s = c.self.inside in
    let x : LevelAt = record { position = c.args.position; level = c.args.level } in
    let clear = subst (λ (v : Levels). IsClearFrom c.args.position v.at) (sym c.self.view_is) c.requires.clear in
    let below = kept_below s.first s.later s.count c.args.position c.requires.later c.requires.inside c.self.invariant clear in
    let len : length s.later ≡ 63 = search rules in
    rw (kept_as c.args.level c.requires.level)
    (kept_more s.first s.later s.count x (omega (arith, len, below)) c.requires.later c.requires.inside c.requires.level c.requires.some clear c.self.invariant)

pub returns-clause-value : goal.returns-clause-value
returns-clause-value c =
    let s = c.self.inside in
    let x : LevelAt = record { position = c.args.position; level = c.args.level } in
    let clear = subst (λ (v : Levels). IsClearFrom c.args.position v.at) (sym c.self.view_is) c.requires.clear in
    let below = kept_below s.first s.later s.count c.args.position c.requires.later c.requires.inside c.self.invariant clear in
    let len : length s.later ≡ 63 = search rules in
    rw (kept_as c.args.level c.requires.level)
    (spread_kept s.first s.later s.count x (omega (arith, len, below)) ∙ (λ i. set (c.self.view_is i).at c.args.position c.args.level))

pub returns-clause-clear : goal.returns-clause-clear
returns-clause-clear c =
    let s = c.self.inside in
    let x : LevelAt = record { position = c.args.position; level = c.args.level } in
    let clear = subst (λ (v : Levels). IsClearFrom c.args.position v.at) (sym c.self.view_is) c.requires.clear in
    let below = kept_below s.first s.later s.count c.args.position c.requires.later c.requires.inside c.self.invariant clear in
    let len : length s.later ≡ 63 = search rules in
    rw (kept_as c.args.level c.requires.level)
    (subst (IsClearFrom (c.args.position + 1)) (sym (spread_kept s.first s.later s.count x (omega (arith, len, below)))) (clear_behind (spread s.first s.later s.count) c.args.position c.args.level clear))
