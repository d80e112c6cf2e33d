use Rattle.std.proofs.Common.{◌≡◌, ◌+◌, ℕ, Bool, cond, ap, sym, ◌∙◌, subst, arith, refl, length, false, not}
use Rattle.std.specs.Prelude.{nat_eq}
use Rattle.std.proofs.lemmas.Bool.{eq-eqb}
use Rattle.m2v_macro.specs.declared.values.MacroSyntax.{MacroSyntax}
use Rattle.m2v_macro.specs.declared.values.SliceState.{SliceState}
use Rattle.m2v_macro.specs.Conditions.{IsMacro}
use Rattle.m2v_macro.specs.Texts.{macro_text, kind_text}
use Rattle.m2v_choose.specs.declared.task.Task.{Task}
use Rattle.m2v_choose.specs.Trials.{IsTask, as_first, with_blocks, coded_kind, has_types, shared_length, header_length}
use Rattle.m2v_choose.proofs.OwnReady.{own_context}
use Rattle.m2v_choose.proofs.Tried.{first_ready, first_address, same_macro}
use Rattle.m2v_choose.proofs.Headers.{coded_length, all_six}
use Rattle.m2v_choose.proofs.bits.shared_bits.Goals as goal

shared_is : (t : Task) (m x : MacroSyntax) (all kind dct : ℕ) → IsTask t → m.increment ≡ t.increment → m.kind.intra ≡ false
    → x ≡ with_blocks m false t.state.now.quantiser false 63 → all ≡ length (macro_text t.context.now t.first x) → kind ≡ length (kind_text t.context.now.kind (coded_kind m.kind false))
    → dct ≡ cond (has_types t.context.now) 1 0 → all ≡ shared_length t.context.now t.state.now m + (kind + dct + 6)
unfolding header_length
shared_is t m x all kind dct task own other same whole type types =
    let c = t.context.now in
    let st = t.state.now in
    let w = with_blocks m false st.quantiser false 63 in
    let first : t.first ≡ as_first c st w.increment = task.first ∙ ap (as_first c st) (sym own) in
    omega (
      arith,
      whole,
      ap (λ (z : MacroSyntax). length (macro_text c t.first z)) same,
      ap (λ (s : SliceState). length (macro_text c s w)) first,
      ap length (same_macro c st w),
      coded_length c st m other false st.quantiser false 63,
      all_six,
      type,
      types,
    )

pub macro_bits-all-requires-clause-context : goal.macro_bits-all-requires-clause-context
macro_bits-all-requires-clause-context c = own_context c.args.task.now.context.now c.requires.task.asked.own

pub macro_bits-all-requires-clause-state : goal.macro_bits-all-requires-clause-state
macro_bits-all-requires-clause-state c = first_ready c.args.task.now c.requires.task

pub macro_bits-all-requires-clause-address : goal.macro_bits-all-requires-clause-address
macro_bits-all-requires-clause-address c = first_address c.args.task.now c.requires.task

pub macro_bits-all-requires-clause-fits : goal.macro_bits-all-requires-clause-fits
macro_bits-all-requires-clause-fits c =
    let t = c.args.task.now in
    let q = t.state.now.quantiser in
    let none : not (nat_eq q q) ≡ false = ap not (eq-eqb q q refl) in
    subst (IsMacro t.context.now t.first)
    (ap (λ (b : Bool). with_blocks c.args.bare.now b q false 63) none ∙ sym c.with_blocks-coded.ensures)
    (c.requires.code.macro q false 63 c.requires.task.asked.state.quantiser (λ e. absurd cc) (omega arith) (omega arith))

pub overflow_sub-result : goal.overflow_sub-result
overflow_sub-result c =
    let t = c.args.task.now in
    omega (
      arith,
      shared_is t c.args.bare.now c.with_blocks-coded.result c.macro_bits-all.result c.args.kinds.now.kept c.dct_bits.result c.requires.task c.requires.code.increment c.requires.code.other
          c.with_blocks-coded.ensures c.macro_bits-all.ensures.value c.requires.kinds.kept c.dct_bits.ensures,
    )

pub returns-clause-value : goal.returns-clause-value
returns-clause-value c =
    let t = c.args.task.now in
    omega (
      arith,
      shared_is t c.args.bare.now c.with_blocks-coded.result c.macro_bits-all.result c.args.kinds.now.kept c.dct_bits.result c.requires.task c.requires.code.increment c.requires.code.other
          c.with_blocks-coded.ensures c.macro_bits-all.ensures.value c.requires.kinds.kept c.dct_bits.ensures,
    )
