use Rattle.std.proofs.lemmas.List.Elements.{All-map}
use Rattle.m2v_quant.specs.Kinds.{IsLevel}
use Rattle.m2v_quant.specs.declared.kind.Levels.{Levels}
use Rattle.std.proofs.Common.{ℕ, ◌+◌, ◌*◌, All, List, ℤ, length, [], ◌∷◌, Bool, ◌≡◌, ◌<◌, refl, ap, sym, ◌∙◌, subst, arith}
use Rattle.m2v_recon.specs.Steps.{levels_of}
use Rattle.m2v_choose.specs.Decisions.{written}
use Rattle.m2v_macro.specs.declared.values.MacroSyntax.{MacroSyntax}
use Rattle.m2v_choose.specs.Decisions.{pattern_of}
use Rattle.m2v_choose.specs.Laws.{IsWritable}
use Rattle.m2v_choose.specs.Trials.{decided, Tried, block_squared, uncoded_squared, with_blocks, sends_code, quantised_by, Predicts, transforms_of}
use Rattle.std.specs.Prelude.{slice_index_or, unsigned_abs}
use Rattle.m2v_idct.specs.Block.{nth}
use Rattle.m2v_macroblock.specs.Macroblocks.{block_levels}
use Rattle.m2v_choose.proofs.Empties.{levels_same, none_there}
use Rattle.m2v_choose.proofs.Tried.{own_picture}
use Rattle.m2v_vlc.specs.Tables.{pattern_code}
use Rattle.m2v_macro.specs.Texts.{macro_text}
use Rattle.m2v_quant.specs.Quantiser.{levels_of as quantised}
use Rattle.m2v_recon.specs.Macro.{kind_of, kind_at}
use Rattle.m2v_choose.proofs.Cheapest.{known_length, levels_long}
use Rattle.m2v_choose.proofs.Headers.{header_known, coded_length}
use Rattle.m2v_choose.proofs.Coded.{coded_writable, kinds_plain, predicts, coding_none, coding_some}
use Rattle.m2v_choose.proofs.trial.Best.try_reached.Goals as goal

pub kinds-kinds-requires-clause-picture : goal.kinds-kinds-requires-clause-picture
kinds-kinds-requires-clause-picture c = own_picture c.args.task.now.context.now c.requires.task.asked.own

pub quantise_blocks-pattern-requires-clause-precision : goal.quantise_blocks-pattern-requires-clause-precision
quantise_blocks-pattern-requires-clause-precision c = kinds_plain c.args.task.now.context.now _ c.args.q c.kinds-kinds.result c.requires.task.asked.own.precision c.kinds-kinds.ensures.value

pub quantise_blocks-pattern-requires-clause-none : goal.quantise_blocks-pattern-requires-clause-none
quantise_blocks-pattern-requires-clause-none c = λ b lt less.
    let q = c.args.q in
    let ts = c.args.transforms.now.at.now in
    let low : (k : ℕ) → k < 64 → unsigned_abs (nth (slice_index_or ts b []) k) < 2 * q = λ k small. omega (arith, c.requires.far.at b k lt small, less, c.from-least.ensures) in
    none_there c.args.task.now.context.now q c.requires.task.asked.own c.kinds-kinds.result c.kinds-kinds.ensures.value (slice_index_or ts b []) b low

pub returns-then-pattern-eq0 : goal.returns-then-pattern-eq0
returns-then-pattern-eq0 c = record {
  tried = λ r p same samples made rated.
      let t = c.args.task.now in
      let whole = transforms_of t.source.now.at c.args.plain.now.prediction.now.at c.args.dct_field in
      coding_none r t p c.args.plain.now.bare.now same c.args.plain.now.prediction.now.at whole (levels_of c.quantise_blocks-pattern.new.out) c.args.q c.args.dct_field c.kinds-kinds.result
      samples refl c.kinds-kinds.ensures.value
      (c.quantise_blocks-pattern.ensures.value ∙ levels_same t.context.now c.args.q c.requires.task.asked.own c.kinds-kinds.result c.kinds-kinds.ensures.value c.args.transforms.now.at.now whole made)
      (sym c.quantise_blocks-pattern.ensures.pattern ∙ c.if-pattern-eq0.true) c.args.self.now rated;
}

pub try_written-requires-clause-writable : goal.try_written-requires-clause-writable
try_written-requires-clause-writable c =
    let t = c.args.task.now in
    let q = c.args.q in
    let ls = levels_of c.quantise_blocks-pattern.new.out in
    let pattern = c.quantise_blocks-pattern.result in
    let m = with_blocks c.args.plain.now.bare.now (sends_code t.state.now q) q c.args.dct_field pattern in
    let same : c.with_blocks-syntax.result ≡ m = c.with_blocks-syntax.ensures ∙ ap (λ (b : Bool). with_blocks c.args.plain.now.bare.now b q c.args.dct_field pattern) c.sends-send.ensures in
    let some : 0 < pattern = omega (arith, c.if-pattern-eq0.false) in
    let within = All-map (All IsLevel) (λ (l : Levels). l.at) c.quantise_blocks-pattern.new.out c.quantise_blocks-pattern.ensures.levels in
    subst (λ (x : MacroSyntax). IsWritable t.context.now t.first (record { syntax = x; levels = ls })) (sym same)
    (coded_writable t.context.now t.first m ls c.requires.bare.other c.quantise_blocks-pattern.ensures.pattern within
    (c.requires.bare.macro q c.args.dct_field pattern c.requires.q c.requires.dct some c.quantise_blocks-pattern.ensures.most))

pub try_written-requires-clause-coded : goal.try_written-requires-clause-coded
unfolding quantised_by
try_written-requires-clause-coded c =
    let ts = c.args.transforms.now.at.now in
    let kinds = c.kinds-kinds.result in
    let ls = levels_of c.quantise_blocks-pattern.new.out in
    let g = λ (b : ℕ). quantised (slice_index_or ts b []) (kind_of (kind_at kinds 0) (kind_at kinds 1) b) in
    record {
      other = ap (λ (x : MacroSyntax). x.kind.intra) c.with_blocks-syntax.ensures ∙ c.requires.bare.other;
      pattern = ap (λ (x : MacroSyntax). x.pattern) c.with_blocks-syntax.ensures ∙ c.quantise_blocks-pattern.ensures.pattern;
      within = c.quantise_blocks-pattern.ensures.levels;
      long = λ b lt.
          subst (λ (xs : List (List ℤ)). length (block_levels xs b) ≡ 64) (sym c.quantise_blocks-pattern.ensures.value)
          (known_length g b lt (λ k. levels_long (slice_index_or ts k []) (kind_of (kind_at kinds 0) (kind_at kinds 1) k)));
    }

pub try_written-requires-clause-header : goal.try_written-requires-clause-header
try_written-requires-clause-header c =
    let t = c.args.task.now in
    let bare = c.args.plain.now.bare.now in
    let headers = c.args.plain.now.headers in
    let pattern = c.quantise_blocks-pattern.result in
    let send = c.sends-send.result in
    c.bits_before-header.ensures.value
    ∙ ap (λ (n : ℕ). n + length (pattern_code pattern)) (header_known t bare headers c.requires.measured.headers send)
    ∙ sym (coded_length t.context.now t.state.now bare c.requires.bare.other send c.args.q c.args.dct_field pattern)
    ∙ ap (λ (x : MacroSyntax). length (macro_text t.context.now t.state.now x)) (sym c.with_blocks-syntax.ensures)

pub bits_before-header-requires : goal.bits_before-header-requires
bits_before-header-requires c = record { kept = c.requires.measured.headers.most_kept; sent = c.requires.measured.headers.most_sent }

pub try_written-requires-clause-still : goal.try_written-requires-clause-still
try_written-requires-clause-still c =
    let s = c.args.task.now.source.now.at in
    let p = c.args.plain.now.prediction.now.at in
    c.still_squares-still.ensures.value ∙ ap (λ (x : MacroSyntax). uncoded_squared x.pattern (block_squared x.dct_field s p)) (sym c.with_blocks-syntax.ensures)

pub returns : goal.returns
returns c = record {
  tried = λ r p same samples made rated.
      let t = c.args.task.now in
      let q = c.args.q in
      let dct = c.args.dct_field in
      let ls = levels_of c.quantise_blocks-pattern.new.out in
      let pattern = c.quantise_blocks-pattern.result in
      let full : c.with_blocks-syntax.result ≡ with_blocks c.args.plain.now.bare.now (sends_code t.state.now q) q dct (pattern_of ls) =
      c.with_blocks-syntax.ensures ∙ (λ i. with_blocks c.args.plain.now.bare.now (c.sends-send.ensures i) q dct (c.quantise_blocks-pattern.ensures.pattern i)) in
      let some : 0 < pattern_of ls = omega (arith, c.if-pattern-eq0.false, c.quantise_blocks-pattern.ensures.pattern) in
      let told : Predicts r t c.with_blocks-syntax.result c.args.plain.now.prediction.now.at =
      subst (λ (x : MacroSyntax). Predicts r t x c.args.plain.now.prediction.now.at) (sym full) (predicts r t p c.args.plain.now.bare.now same c.args.plain.now.prediction.now.at q dct (pattern_of ls) samples) in
      let whole = transforms_of t.source.now.at c.args.plain.now.prediction.now.at dct in
      coding_some r t p c.args.plain.now.bare.now same c.args.plain.now.prediction.now.at whole ls q dct c.kinds-kinds.result
      samples refl c.kinds-kinds.ensures.value
      (c.quantise_blocks-pattern.ensures.value ∙ levels_same t.context.now q c.requires.task.asked.own c.kinds-kinds.result c.kinds-kinds.ensures.value c.args.transforms.now.at.now whole made)
      some c.args.self.now c.try_written.new.self
      (subst (λ (x : MacroSyntax). Tried (decided r t) c.args.self.now c.try_written.new.self (written x ls ∷ [])) full (c.try_written.ensures.tried r told rated));
}
