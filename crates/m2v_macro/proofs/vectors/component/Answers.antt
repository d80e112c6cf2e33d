use Rattle.std.proofs.Common.{Bool, List, Ok, sym, ap, ◌∙◌, rules}
use Rattle.std.specs.Prelude.{drop}
use Rattle.m2v_bits.specs.Bits.{Unread}
use Rattle.m2v_macro.specs.Vectors.{component_at}
use Rattle.m2v_macro.proofs.Components.{passed, still_reads}
use Rattle.m2v_macro.proofs.vectors.component.Goals as goal

pub returns-then-is_still : goal.returns-then-is_still
returns-then-is_still c =
    let f = c.args.f_code in
    let p = c.args.predictor in
    let rest = c.args.input.now.rest in
    let own = sym (passed f p c.requires.most c.requires.predictor) in
    let left = sym (ap (λ (u : Unread). u.rest) c.skip.ensures) in
    record {
      exact = ap (λ (bs : List Bool). (component_at f p).read bs) (c.is_still.ensures c.if-is_still.true)
          ∙ still_reads f p (drop 1 rest) c.requires.predictor ∙ (λ i. Ok (own i, left i));
      text = search rules;
      within = search rules;
    }
