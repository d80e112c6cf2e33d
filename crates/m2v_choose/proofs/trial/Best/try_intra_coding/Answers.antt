use Rattle.std.proofs.Common.{◌≡◌, ◌≤◌, ◌+◌, ◌*◌, ◌^◌, List, [], ◌∷◌, length, replicate, ap, sym, ◌∙◌, subst, arith, ℤ}
use Rattle.std.proofs.Math.Nat.{mul-le-mul_left}
use Rattle.m2v_macro.specs.declared.values.MacroSyntax.{MacroSyntax}
use Rattle.m2v_macro.specs.Texts.{macro_text}
use Rattle.m2v_choose.specs.Decisions.{written}
use Rattle.m2v_choose.specs.Choice.{bits_taken}
use Rattle.m2v_choose.specs.Trials.{decided, Tried, rebuilt_by}
use Rattle.m2v_choose.proofs.Tried.{own_picture, first_ready, first_address}
use Rattle.m2v_choose.proofs.IntraCoded.{no_references, intra_can}
use Rattle.m2v_choose.proofs.IntraParts.{bits_are, blocks_least}
use Rattle.m2v_choose.proofs.IntraTried.{predicts_none, whole_tried, left_early}
use Rattle.m2v_choose.proofs.trial.Best.try_intra_coding.Goals as goal

pub kinds-kinds-requires-clause-picture : goal.kinds-kinds-requires-clause-picture
kinds-kinds-requires-clause-picture c = own_picture c.args.task.now.context.now c.requires.task.asked.own

pub returns-then-bit_cost-self-clause-tried : goal.returns-then-bit_cost-self-clause-tried
returns-then-bit_cost-self-clause-tried c = λ r rated.
    let t = c.args.task.now in
    let m = c.intra_syntax-syntax.result in
    let syn = c.intra_syntax-syntax.ensures.value in
    let kinds = c.kinds-kinds.result in
    let known = c.kinds-kinds.ensures.value in
    let can = intra_can t c.args.q c.args.dct_field kinds known c.kinds-kinds.ensures.kinds c.requires.task c.requires.q c.requires.dct (λ s. sym (syn no_references) ∙ syn s) m syn in
    let bit = (2 * t.limits.now.q) ^ 2 in
    let header = c.least_header-header.result in
    let before : header ≤ length (macro_text t.context.now t.first m) =
    subst (λ (n : MacroSyntax). header ≤ length (macro_text t.context.now t.first n)) (sym (syn r)) (c.least_header-header.ensures.value r _) in
    let few = mul-le-mul_left bit (blocks_least t m kinds c.requires.task can) in
    let parted : bit * (header + 24) ≡ bit * header + bit * 24 = grind arith in
    left_early t m c.args.q c.args.dct_field kinds c.requires.task can syn known r c.args.self.now header (bit * 24) rated c.intra_syntax-syntax.ensures.increment before (omega (arith, few))
    (omega (arith, c.bit_cost.ensures.value, parted, c.if-bit_cost-self.true))

pub sums_until-sums-requires-clause-can : goal.sums_until-sums-requires-clause-can
sums_until-sums-requires-clause-can c =
    let syn = c.intra_syntax-syntax.ensures.value in
    intra_can c.args.task.now c.args.q c.args.dct_field c.kinds-kinds.result c.kinds-kinds.ensures.value c.kinds-kinds.ensures.kinds c.requires.task c.requires.q c.requires.dct
    (λ s. sym (syn no_references) ∙ syn s) c.intra_syntax-syntax.result syn

pub returns-then-part_score-limit-clause-tried : goal.returns-then-part_score-limit-clause-tried
returns-then-part_score-limit-clause-tried c = λ r rated.
    let t = c.args.task.now in
    let m = c.intra_syntax-syntax.result in
    let syn = c.intra_syntax-syntax.ensures.value in
    let kinds = c.kinds-kinds.result in
    let known = c.kinds-kinds.ensures.value in
    let can = intra_can t c.args.q c.args.dct_field kinds known c.kinds-kinds.ensures.kinds c.requires.task c.requires.q c.requires.dct (λ s. sym (syn no_references) ∙ syn s) m syn in
    let bit = (2 * t.limits.now.q) ^ 2 in
    let header = c.least_header-header.result in
    let before : header ≤ length (macro_text t.context.now t.first m) =
    subst (λ (n : MacroSyntax). header ≤ length (macro_text t.context.now t.first n)) (sym (syn r)) (c.least_header-header.ensures.value r _) in
    let sums = c.sums_until-sums.result in
    left_early t m c.args.q c.args.dct_field kinds c.requires.task can syn known r c.args.self.now header (bit * sums.bits + 8 * sums.squares) rated c.intra_syntax-syntax.ensures.increment before c.sums_until-sums.ensures.most
    (omega (arith, c.bit_cost-2.ensures.value, c.part_score.ensures, c.if-part_score-limit.true))

pub macro_bits-requires-clause-context : goal.macro_bits-requires-clause-context
macro_bits-requires-clause-context c = (own_picture c.args.task.now.context.now c.requires.task.asked.own).context

pub macro_bits-requires-clause-state : goal.macro_bits-requires-clause-state
macro_bits-requires-clause-state c = first_ready c.args.task.now c.requires.task

pub macro_bits-requires-clause-address : goal.macro_bits-requires-clause-address
macro_bits-requires-clause-address c = first_address c.args.task.now c.requires.task

pub macro_bits-requires-clause-fits : goal.macro_bits-requires-clause-fits
macro_bits-requires-clause-fits c =
    let syn = c.intra_syntax-syntax.ensures.value in
    let can = intra_can c.args.task.now c.args.q c.args.dct_field c.kinds-kinds.result c.kinds-kinds.ensures.value c.kinds-kinds.ensures.kinds c.requires.task c.requires.q c.requires.dct
    (λ s. sym (syn no_references) ∙ syn s) c.intra_syntax-syntax.result syn in
    can.writable.macro

pub try_rebuilt-requires-clause-bits : goal.try_rebuilt-requires-clause-bits
try_rebuilt-requires-clause-bits c = λ r.
    let t = c.args.task.now in
    let m = c.intra_syntax-syntax.result in
    let syn = c.intra_syntax-syntax.ensures.value in
    let kinds = c.kinds-kinds.result in
    let can = intra_can t c.args.q c.args.dct_field kinds c.kinds-kinds.ensures.value c.kinds-kinds.ensures.kinds c.requires.task c.requires.q c.requires.dct (λ s. sym (syn no_references) ∙ syn s) m syn in
    let whole = c.sums_until-sums.ensures.whole (omega (arith, c.part_score.ensures, c.if-part_score-limit.false)) in
    bits_are t m kinds c.requires.task can r c.macro_bits.result c.sums_until-sums.result.bits c.intra_syntax-syntax.ensures.increment c.macro_bits.ensures.value whole.bits
    ∙ ap (λ (ls : List (List ℤ)). bits_taken (decided r t) (written m ls)) (sym whole.own)

pub returns-clause-tried : goal.returns-clause-tried
returns-clause-tried c = λ r rated.
    let t = c.args.task.now in
    let m = c.intra_syntax-syntax.result in
    let syn = c.intra_syntax-syntax.ensures.value in
    let kinds = c.kinds-kinds.result in
    let known = c.kinds-kinds.ensures.value in
    let can = intra_can t c.args.q c.args.dct_field kinds known c.kinds-kinds.ensures.kinds c.requires.task c.requires.q c.requires.dct (λ s. sym (syn no_references) ∙ syn s) m syn in
    let whole = c.sums_until-sums.ensures.whole (omega (arith, c.part_score.ensures, c.if-part_score-limit.false)) in
    let samples = whole.rebuilt ∙ ap (λ (ls : List (List ℤ)). rebuilt_by t (replicate 384 0) (record { syntax = m; levels = ls })) (sym whole.own) in
    let predicts = predicts_none t m c.args.q c.args.dct_field kinds c.requires.task can syn known r in
    whole_tried t m c.args.q c.args.dct_field kinds c.requires.task can syn known r c.args.self.now c.try_rebuilt.new.self
    (subst (λ (ls : List (List ℤ)). Tried (decided r t) c.args.self.now c.try_rebuilt.new.self (written m ls ∷ [])) whole.own
    (c.try_rebuilt.ensures.tried r (replicate 384 0) predicts samples rated))
