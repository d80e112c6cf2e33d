-- The bits before the blocks of a macroblock that has a prediction, with coded blocks and without.
use Rattle.std.proofs.Common.{◌≡◌, ℕ, zero, suc, ◌+◌, ◌≤◌, ◌<◌, Bool, true, false, ◌&&◌, ◌||◌, not, ◌⊎◌, inl, inr, [], ◌∷◌, ◌++◌, length, refl, ap, sym, ◌∙◌, subst, arith}
use Rattle.std.specs.Prelude.{nat_le, nat_eq, cond, if◌then◌else◌}
use Rattle.std.proofs.Math.Bool.{or-true}
use Rattle.std.proofs.lemmas.Bool.{leb-true, eqb-true, cases_eq}
use Rattle.std.proofs.lemmas.List.{length-append}
use Rattle.m2v_bits.specs.Bits.{bits_of}
use Rattle.m2v_bits.proofs.Bits.{length-bits_of}
use Rattle.m2v_vlc.specs.declared.values.MbType.{MbType}
use Rattle.m2v_vlc.specs.Codes.{code_of}
use Rattle.m2v_vlc.specs.Tables.{block_pattern, pattern_code}
use Rattle.m2v_vlc.specs.Values.{has_type_i, has_type_p, has_type_b}
use Rattle.m2v_vlc.proofs.ValueLaws.{below, agree}
use Rattle.m2v_macro.specs.declared.values.MacroSyntax.{MacroSyntax}
use Rattle.m2v_macro.specs.declared.values.SliceState.{SliceState}
use Rattle.m2v_macro.specs.declared.values.PictureContext.{PictureContext}
use Rattle.m2v_macro.specs.States.{after, is_field, pmv_before}
use Rattle.m2v_macro.specs.Macros.{has_form, has_dct}
use Rattle.m2v_macro.specs.Conditions.{IsMacro}
use Rattle.m2v_macro.proofs.Types.{of_i, of_p, of_b}
use Rattle.m2v_macro.specs.Texts.{macro_text, modes_text, directions_text, pattern_text, kind_text, increment_text, form_text, dct_text, quantiser_text, marker_text}
use Rattle.m2v_macroblock.specs.Macroblocks.{Macroblock}
use Rattle.m2v_macroblock.specs.Texts.{blocks_text, macroblock_text}
use Rattle.m2v_macroblock.proofs.Counted.{no_blocks}
use Rattle.m2v_choose.specs.declared.task.Task.{Task}
use Rattle.m2v_choose.specs.declared.bits.Headers.{Headers}
use Rattle.m2v_choose.specs.Trials.{with_blocks, sends_code, has_types, shared_length, header_length, AreHeaders, IsHeader}

-- ---- types

abbrev pub bare_kind : Bool → Bool → MbType
bare_kind f b = record { quant = false; forward = f; backward = b; pattern = false; intra = false }

-- ---- patterns

either_true : (a b : Bool) → (a || b) ≡ true → (a ≡ true) ⊎ (b ≡ true)
either_true true b e = inl refl
either_true false b e = inr e

unfoldable is_long : ℕ → Bool
is_long p = nat_eq p 0 || nat_le 3 (length (pattern_code p))

all_long : below is_long 64 ≡ below (λ p. true) 64
unfolding below is_long code_of block_pattern bits_of
all_long = refl

pub some_long : (p : ℕ) → 0 < p → p < 64 → 3 ≤ length (pattern_code p)
unfolding is_long
some_long p some most = elim (either_true (nat_eq p 0) (nat_le 3 (length (pattern_code p))) (agree is_long (λ p. true) 64 p all_long most)) [
  | inl none ↦ absurd (omega (arith, eqb-true p 0 none, some))
  | inr long ↦ leb-true 3 (length (pattern_code p)) long
]

-- ---- the elements before the blocks

-- a macroblock that has a prediction and no blocks
pub record IsBare (m : MacroSyntax) : Type 0 where
  pub quant : m.kind.quant ≡ false
  pub pattern : m.kind.pattern ≡ false
  pub intra : m.kind.intra ≡ false

pub text_length : (c : PictureContext) (st : SliceState) (x : MacroSyntax) → length (macro_text c st x)
    ≡ length (increment_text x.increment) + (length (kind_text c.kind x.kind) + (length (form_text c x.kind x.form)
    + (length (dct_text c x.kind x.dct_field) + length (quantiser_text x.kind x.quantiser))))
    + (length (directions_text c (pmv_before c st x.increment) x) + length (pattern_text x.kind x.pattern))
unfolding macro_text modes_text
text_length c st x =
    let quant = quantiser_text x.kind x.quantiser in
    let dct = dct_text c x.kind x.dct_field in
    let form = form_text c x.kind x.form in
    let kind = kind_text c.kind x.kind in
    let inc = increment_text x.increment in
    let directions = directions_text c (pmv_before c st x.increment) x in
    let pattern = pattern_text x.kind x.pattern in
    omega (
      arith,
      length-append (inc ++ (kind ++ (form ++ (dct ++ quant)))) (directions ++ pattern),
      length-append directions pattern,
      length-append inc (kind ++ (form ++ (dct ++ quant))),
      length-append kind (form ++ (dct ++ quant)),
      length-append form (dct ++ quant),
      length-append dct quant,
    )

module _ (c : PictureContext) (st : SliceState) (m : MacroSyntax) (bare : IsBare m) where
  no_dct : dct_text c m.kind m.dct_field ≡ []
  unfolding dct_text has_dct
  no_dct = rw (bare.intra, bare.pattern) (none (is_field c) c.extension.frame_pred_frame_dct)
    where
      none : (f p : Bool) → (if not f && (not p && (false || false)) then m.dct_field ∷ [] else []) ≡ []
      none true p = refl
      none false true = refl
      none false false = refl

  no_quantiser : quantiser_text m.kind m.quantiser ≡ []
  unfolding quantiser_text
  no_quantiser = rw bare.quant refl

  no_pattern : pattern_text m.kind m.pattern ≡ []
  unfolding pattern_text
  no_pattern = rw (bare.intra, bare.pattern) refl

  -- without blocks it has its type besides what it shares with its codings
  pub bare_length : length (macro_text c st m) ≡ shared_length c st m + length (kind_text c.kind m.kind)
  unfolding shared_length
  bare_length = omega (arith, text_length c st m, ap length no_dct, ap length no_quantiser, ap length no_pattern)

module _ (c : PictureContext) (st : SliceState) (m : MacroSyntax) (other : m.kind.intra ≡ false) (send : Bool) (q : ℕ) (dct_field : Bool) (pattern : ℕ) where
  same_directions : directions_text c (pmv_before c st m.increment) (with_blocks m send q dct_field pattern) ≡ directions_text c (pmv_before c st m.increment) m
  unfolding directions_text marker_text
  same_directions = refl

  same_form : form_text c (with_blocks m send q dct_field pattern).kind m.form ≡ form_text c m.kind m.form
  unfolding form_text has_form
  same_form = refl

  pattern_is : pattern_text (with_blocks m send q dct_field pattern).kind pattern ≡ pattern_code pattern
  unfolding pattern_text
  pattern_is = rw other refl

  dct_is : length (dct_text c (with_blocks m send q dct_field pattern).kind dct_field) ≡ cond (has_types c) 1 0
  unfolding dct_text has_dct
  dct_is = rw other (one (is_field c) c.extension.frame_pred_frame_dct)
    where
      one : (f p : Bool) → length (if not f && (not p && (false || true)) then dct_field ∷ [] else []) ≡ cond (not f && not p) 1 0
      one true p = refl
      one false true = refl
      one false false = refl

  quantiser_is : length (quantiser_text (with_blocks m send q dct_field pattern).kind (cond send q 0)) ≡ cond send 5 0
  unfolding quantiser_text
  quantiser_is = five send (cond send q 0)
    where
      five : (b : Bool) (n : ℕ) → length (if b then bits_of 5 n else []) ≡ cond b 5 0
      five true n = length-bits_of 5 n
      five false n = refl

  -- what stands before the blocks of a coding
  pub coded_length : length (macro_text c st (with_blocks m send q dct_field pattern)) ≡ header_length c st m send + length (pattern_code pattern)
  unfolding header_length shared_length
  coded_length =
      omega (arith, text_length c st (with_blocks m send q dct_field pattern), ap length same_directions, ap length same_form, ap length pattern_is, dct_is, quantiser_is)

-- the pattern of all six blocks
pub all_six : length (pattern_code 63) ≡ 6
unfolding code_of block_pattern bits_of
all_six = refl

pub header_known : (t : Task) (m : MacroSyntax) (h : Headers) → AreHeaders t m h → (send : Bool) → cond send h.sent h.kept ≡ header_length t.context.now t.state.now m send
header_known t m h known true = known.sent
header_known t m h known false = known.kept

-- the least that stands before the blocks of any coding
pub least_known : (t : Task) (m : MacroSyntax) (h : Headers) (n : ℕ) → m.kind.intra ≡ false → AreHeaders t m h → n ≤ h.kept + 3 → n ≤ h.sent + 3 → IsHeader t m n
least_known t m h n other known kept sent = λ q dct_field pattern some most.
    let send = sends_code t.state.now q in
    let whole = coded_length t.context.now t.state.now m other send q dct_field pattern in
    omega (arith, whole, header_known t m h known send, some_long pattern some most, by_send send)
  where
    by_send : (send : Bool) → n ≤ cond send h.sent h.kept + 3
    by_send true = sent
    by_send false = kept

-- ---- without blocks

no_quant : (a f b : Bool) → (has_type_p (record { quant = a; forward = f; backward = b; pattern = false; intra = false }) || has_type_b (record { quant = a; forward = f; backward = b; pattern = false; intra = false })) ≡ true → a ≡ false
no_quant false f b e = refl
no_quant true true true e = absurd cc
no_quant true true false e = absurd cc
no_quant true false true e = absurd cc
no_quant true false false e = absurd cc

-- a macroblock without blocks that has a prediction and can stand in a picture
module _ (c : PictureContext) (st : SliceState) (m : MacroSyntax) (fits : IsMacro c st m) (other : m.kind.intra ≡ false) (none : m.pattern ≡ 0) (low : 1 ≤ c.kind) (high : c.kind ≤ 3) where
  pattern_none : (b : Bool) → m.kind.pattern ≡ b → m.kind.pattern ≡ false
  pattern_none true e = absurd (omega (arith, (fits.pattern other e).0, none))
  pattern_none false e = e

  not_intra : c.kind ≡ 1 → ⊥
  not_intra one =
      let is = of_i c.kind m.kind one fits.kind in
      let no : false ≡ true = sym (no_i m.kind.quant m.kind.forward m.kind.backward m.kind.pattern) ∙ subst (λ (b : Bool). has_type_i (record { quant = m.kind.quant; forward = m.kind.forward; backward = m.kind.backward; pattern = m.kind.pattern; intra = b }) ≡ true) other is in
      absurd cc
    where
      no_i : (a f b p : Bool) → has_type_i (record { quant = a; forward = f; backward = b; pattern = p; intra = false }) ≡ false
      no_i true true true true = refl
      no_i true true true false = refl
      no_i true true false true = refl
      no_i true true false false = refl
      no_i true false true true = refl
      no_i true false true false = refl
      no_i true false false true = refl
      no_i true false false false = refl
      no_i false true true true = refl
      no_i false true true false = refl
      no_i false true false true = refl
      no_i false true false false = refl
      no_i false false true true = refl
      no_i false false true false = refl
      no_i false false false true = refl
      no_i false false false false = refl

  pub kind_known : (c.kind ≡ 2) ⊎ (c.kind ≡ 3)
  kind_known = elim (cases_eq c.kind 2) [
    | inl two ↦ inl two
    | inr less ↦ inr (by_three not_intra less)
  ]
    where
      three : (k : ℕ) → 1 ≤ k → k ≤ 3 → (k ≡ 1 → ⊥) → (k ≡ 2 → ⊥) → k ≡ 3
      three zero a b x y = absurd (omega (arith, a))
      three (suc zero) a b x y = absurd (x refl)
      three (suc (suc zero)) a b x y = absurd (y refl)
      three (suc (suc (suc k))) a b x y = omega (arith, b)

      by_three : (c.kind ≡ 1 → ⊥) → (c.kind ≡ 2 → ⊥) → c.kind ≡ 3
      by_three one two = elim (cases_eq c.kind 1) [
        | inl is ↦ absurd (one is)
        | inr other ↦ three c.kind low high other two
      ]

  pub is_bare : IsBare m
  is_bare =
      let pattern = pattern_none m.kind.pattern refl in
      let same : m.kind ≡ record { quant = m.kind.quant; forward = m.kind.forward; backward = m.kind.backward; pattern = false; intra = false } =
      λ i. record { quant = m.kind.quant; forward = m.kind.forward; backward = m.kind.backward; pattern = pattern i; intra = other i } in
      let has : (has_type_p m.kind || has_type_b m.kind) ≡ true = elim kind_known [
        | inl two ↦ ap (λ t. t || has_type_b m.kind) (of_p c.kind m.kind two fits.kind)
        | inr three ↦ rw (of_b c.kind m.kind not_intra (λ two. omega (arith, two, three)) fits.kind) (or-true (has_type_p m.kind))
      ] in
      record {
        quant = no_quant m.kind.quant m.kind.forward m.kind.backward (subst (λ (v : MbType). (has_type_p v || has_type_b v) ≡ true) same has);
        pattern = pattern;
        intra = other;
      }

-- a macroblock without coded blocks has its elements alone
module _ (c : PictureContext) (st : SliceState) (x : Macroblock) (none : x.syntax.pattern ≡ 0) where
  pub text_alone : length (macroblock_text c st x) ≡ length (macro_text c st x.syntax)
  unfolding macroblock_text
  text_alone = omega (arith, length-append (macro_text c st x.syntax) (blocks_text c (after c st x.syntax) x 0 6), no_blocks c (after c st x.syntax) x none)
