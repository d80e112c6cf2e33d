use Rattle.std.proofs.Common.{◌≡◌, ◌*◌, ◌+◌, ℕ, [], All, List, length, get_or, map, not, ap, sym, ◌∙◌, arith, refl, subst, ℤ}
use Rattle.std.proofs.Math.ListN.{length-set}
use Rattle.std.proofs.lemmas.List.{length-map, get_or-map}
use Rattle.std.proofs.lemmas.List.FromFn.{fill_by_all}
use Rattle.std.proofs.lemmas.List.Elements.{All-from_get_or}
use Rattle.m2v_quant.specs.declared.kind.Levels.{Levels}
use Rattle.m2v_quant.specs.Kinds.{IsLevel}
use Rattle.m2v_quant.specs.Quantiser.{levels_of as quantised, is_empty}
use Rattle.m2v_recon.specs.Macro.{kind_at, kind_of}
use Rattle.m2v_recon.specs.Steps.{levels_of}
use Rattle.m2v_choose.proofs.Small.{bit, pattern_to, pattern_more, pattern_below, pattern_few, pattern_whole}
use Rattle.m2v_choose.proofs.Sums.{set_next_of}
use Rattle.m2v_choose.specs.Decisions.{pattern_of}
use Rattle.m2v_choose.specs.Trials.{quantised_by}
use Rattle.m2v_choose.proofs.blocks.quantise_blocks.Goals as goal

pub loop-block-init : goal.loop-block-init
unfolding pattern_to
loop-block-init c = record {
  len = c.told-out;
  value = λ b lt. absurd (omega (arith, lt));
  levels = λ b lt. absurd (omega (arith, lt));
  pattern = refl;
}

pub quantise_reached-some-requires-clause-none : goal.quantise_reached-some-requires-clause-none
quantise_reached-some-requires-clause-none c = c.requires.none c.loop-block.block (omega arith)

pub pattern_with-pattern-requires : goal.pattern_with-pattern-requires
pattern_with-pattern-requires c =
    let n = c.loop-block.block in
    let kinds = c.args.kinds.now in
    let e = λ (b : ℕ). is_empty (quantised (get_or c.args.transforms.now b []) (kind_of (kind_at kinds 0) (kind_at kinds 1) b)) in
    omega (arith, c.loop-block.invariant.pattern, pattern_few e n (omega arith))

pub loop-block-preserved : goal.loop-block-preserved
loop-block-preserved c =
    let n = c.loop-block.block in
    let kinds = c.args.kinds.now in
    let f = λ (b : ℕ). quantised (get_or c.args.transforms.now b []) (kind_of (kind_at kinds 0) (kind_at kinds 1) b) in
    let e = λ (b : ℕ). is_empty (f b) in
    let at = λ (l : Levels). l.at in
    let inv = c.loop-block.invariant in
    let one = c.quantise_reached-some.ensures in
    let some = one.some ∙ ap (λ (ls : List ℤ). not (is_empty ls)) one.value in
    record {
      len = simp length-set inv.len;
      value = set_next_of at (λ b z. z ≡ f b) c.loop-block.out [] n _ (omega (arith, inv.len)) inv.value one.value;
      levels = set_next_of at (λ b z. All IsLevel z) c.loop-block.out [] n _ (omega (arith, inv.len)) inv.levels one.levels;
      pattern = c.pattern_with-pattern.ensures ∙ (λ i. 2 * inv.pattern i + bit (some i)) ∙ sym (pattern_more e n);
    }

pub returns : goal.returns
unfolding quantised_by
returns c =
    let kinds = c.args.kinds.now in
    let f = λ (b : ℕ). quantised (get_or c.args.transforms.now b []) (kind_of (kind_at kinds 0) (kind_at kinds 1) b) in
    let e = λ (b : ℕ). is_empty (f b) in
    let at = λ (l : Levels). l.at in
    let inv = c.loop-block.invariant in
    let end : c.loop-block.block ≡ 6 = omega arith in
    let len : length (map at c.loop-block.out) ≡ 6 = omega (arith, length-map c.loop-block.out at, inv.len) in
    let value = fill_by_all f (levels_of c.loop-block.out) 6 [] len (λ k lt. inv.value k (omega arith)) in
    let pattern = inv.pattern ∙ ap (pattern_to e) end in
    record {
      value = value;
      levels = All-from_get_or (λ (l : Levels). All IsLevel l.at) c.loop-block.out (record { at = [] })
          (λ i lt. subst (All IsLevel) (get_or-map at c.loop-block.out i (record { at = [] }) [] lt) (inv.levels i (omega (arith, inv.len, lt))));
      pattern = pattern ∙ pattern_whole f ∙ sym (ap pattern_of value);
      most = omega (arith, pattern, pattern_below e 6);
    }
