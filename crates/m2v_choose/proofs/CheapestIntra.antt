-- The least that a coding of an intra macroblock scores in a P or B picture: the bits of its type and of its blocks.
use Rattle.std.proofs.Common.{◌≡◌, ℕ, ◌*◌, ◌^◌, ◌≤◌, Bool, true, false, ◌⊎◌, inl, inr, List, [], ◌∷◌, length, map, refl, arith}
use Rattle.std.specs.Prelude.{nat_lt}
use Rattle.std.proofs.lemmas.List.{length-append}
use Rattle.std.proofs.Math.Nat.{mul-le-mul_left}
use Rattle.m2v_bits.proofs.Bits.{length-bits_of}
use Rattle.m2v_vlc.specs.Codes.{code_of}
use Rattle.m2v_vlc.specs.Tables.{type_p, type_b}
use Rattle.m2v_recon.specs.Macro.{is_coded}
use Rattle.m2v_macro.specs.declared.values.SliceState.{SliceState}
use Rattle.m2v_macro.specs.declared.values.PictureContext.{PictureContext}
use Rattle.m2v_macro.specs.States.{after}
use Rattle.m2v_macro.specs.Texts.{macro_text, kind_text}
use Rattle.m2v_macroblock.specs.Macroblocks.{Macroblock, kind_for, block_levels, predictor}
use Rattle.m2v_macroblock.specs.Texts.{block_in_text, blocks_text, macroblock_text}
use Rattle.m2v_macroblock.proofs.BlockTexts.{six_blocks}
use Rattle.m2v_macroblock.proofs.m2v_block.Shortest.{intra_least}
use Rattle.m2v_choose.specs.declared.trial.Best.{Best}
use Rattle.m2v_choose.specs.Decisions.{Decision, Coding, intra_syntax}
use Rattle.m2v_choose.specs.Candidates.{intra_by}
use Rattle.m2v_choose.specs.Choice.{bits_taken, score}
use Rattle.m2v_choose.specs.Own.{IsOwn}
use Rattle.m2v_choose.specs.Trials.{IsRated, Tried}
use Rattle.m2v_choose.proofs.Headers.{text_length}
use Rattle.m2v_choose.proofs.Tried.{kept, tried_none, tried_on}

-- an intra type has five bits at least
pub type_least : (k : ℕ) (quant : Bool) → (k ≡ 2) ⊎ (k ≡ 3) → 5 ≤ length (kind_text k (record { quant = quant; forward = false; backward = false; pattern = false; intra = true }))
unfolding kind_text type_p type_b code_of
type_least k true (inl two) = rw two (omega (arith, length-bits_of 6 1))
type_least k false (inl two) = rw two (omega (arith, length-bits_of 5 3))
type_least k true (inr three) = rw three (omega (arith, length-bits_of 6 1))
type_least k false (inr three) = rw three (omega (arith, length-bits_of 5 3))

-- six blocks have four bits each
module _ (c : PictureContext) (st : SliceState) (x : Macroblock) (intra : x.syntax.kind.intra ≡ true) (whole : x.syntax.pattern ≡ 63) (table : c.extension.intra_vlc_format ≡ false) where
  pub one_least : (b : ℕ) → is_coded 63 b ≡ true → 4 ≤ length (block_in_text c st x b)
  unfolding block_in_text kind_for
  one_least b on = rw (whole, on, table) (intra_least (kind_for c x.syntax.kind.intra (nat_lt b 4) st.quantiser) (predictor st.dc x.levels b) (block_levels x.levels b) intra)

  blocks_least : 24 ≤ length (blocks_text c st x 0 6)
  blocks_least =
      omega (arith, six_blocks c st x, one_least 0 refl, one_least 1 refl, one_least 2 refl, one_least 3 refl, one_least 4 refl, one_least 5 refl)

pub header_least : (d : Decision) (st : SliceState) (k : Coding) → (d.context.kind ≡ 2) ⊎ (d.context.kind ≡ 3) → 5 ≤ length (macro_text d.context st (intra_syntax d k))
unfolding intra_syntax
header_least d st k kind = omega (arith, text_length d.context st (intra_syntax d k), type_least d.context.kind (intra_syntax d k).kind.quant kind)

module _ (d : Decision) (own : IsOwn d.context) (kind : (d.context.kind ≡ 2) ⊎ (d.context.kind ≡ 3)) where
  intra_bits : (k : Coding) → 29 ≤ bits_taken d (intra_by d k)
  unfolding bits_taken intra_by intra_syntax macroblock_text
  intra_bits k =
      let x = (intra_by d k).macroblock in
      let c = d.context in
      let st = after c d.state x.syntax in
      omega (arith, length-append (macro_text c d.state x.syntax) (blocks_text c st x 0 6), text_length c d.state x.syntax, type_least c.kind x.syntax.kind.quant kind, blocks_least c st x refl refl own.table)

  intra_scores : (k : Coding) → (2 * d.limits.q) ^ 2 * 29 ≤ score d (intra_by d k)
  unfolding score
  intra_scores k = omega (arith, mul-le-mul_left ((2 * d.limits.q) ^ 2) (intra_bits k))

  -- so all are left where that is no less than the best so far
  pub intra_left : (best : Best) → IsRated d best → best.below ≤ (2 * d.limits.q) ^ 2 * 29 → (ks : List Coding) → Tried d best best (map (intra_by d) ks)
  intra_left best rated low [] = tried_none d best rated
  intra_left best rated low (k ∷ ks) =
      tried_on d best best best (intra_by d k ∷ []) (map (intra_by d) ks) (kept d (intra_by d k) best rated (omega (arith, low, intra_scores k))) (intra_left best rated low ks)
