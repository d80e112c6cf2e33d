-- The laws of macroblocks, from their syntax's.
use Rattle.std.proofs.Common.{◌≡◌, ℕ, ◌*◌, ◌≤◌, Bool, List, ◌++◌, Ok, ℤ, pos, neg_ℤ, ◌+ℤ◌, sym, subst, ◌∙◌, arith}
use Rattle.std.proofs.lemmas.Int.{ints, by_lt_z}
use Rattle.m2v_bits.specs.Syntax.{Spells}
use Rattle.m2v_vector.specs.Vectors.{scale, IsVector, wrapped}
use Rattle.m2v_vector.proofs.Wrapping.{wrap_low, wrap_high, wrap_none}
use Rattle.m2v_macro.specs.declared.values.MacroSyntax.{MacroSyntax}
use Rattle.m2v_macro.specs.declared.values.SliceState.{SliceState}
use Rattle.m2v_macro.specs.declared.values.PictureContext.{PictureContext}
use Rattle.m2v_macro.specs.Vectors.{component_at}
use Rattle.m2v_macro.specs.Macros.{macro_at}
use Rattle.m2v_macro.specs.Conditions.{IsContext, IsReady, IsMacro}
use Rattle.m2v_macro.specs.Texts.{difference_text, macro_text}
use Rattle.m2v_macro.specs.Laws.{TwoTexts}
use Rattle.m2v_macro.proofs.MacroLaws.{macro_strict}
use Rattle.m2v_macro.proofs.Spellings.{difference_spells}
use Rattle.m2v_macro.proofs.MacroSpellings.{macro_spells}

pub read_back : (c : PictureContext) (st : SliceState) (m : MacroSyntax) (rest : List Bool) → IsContext c → IsReady c st → IsMacro c st m → (macro_at c st).read (macro_text c st m ++ rest) ≡ Ok (m, rest)
read_back c st m rest ctx ready h = (macro_strict c st).lawful.only m (macro_text c st m ++ rest) rest ((macro_spells c st m ctx ready h).stands rest)

-- 16 f more and 16 f less lead to one vector
one_vector : (f : ℕ) (p : ℤ) → IsVector f p → wrapped f (p +ℤ pos (16 * f)) ≡ wrapped f (p +ℤ neg_ℤ (pos (16 * f)))
one_vector f p h =
    by_lt_z p (pos 0)
    (λ low. wrap_none f _ (omega (arith, ints, h.0)) (omega (arith, ints, low)) ∙ omega (arith, ints) ∙ sym (wrap_low f _ (omega (arith, ints, low))))
    (λ high. wrap_high f _ (omega (arith, ints, high)) ∙ omega (arith, ints) ∙ sym (wrap_none f _ (omega (arith, ints, high)) (omega (arith, ints, h.1))))

pub two_texts : (f_code : ℕ) (p : ℤ) → 1 ≤ f_code → IsVector (scale f_code) p → TwoTexts f_code p
two_texts f_code p least h =
    let f = scale f_code in
    record {
      vector = wrapped f (p +ℤ pos (16 * f));
      high = difference_spells f_code p (pos (16 * f)) least (omega (arith, ints), omega (arith, ints));
      low = subst (λ (z : ℤ). Spells (component_at f_code p) z (difference_text f_code (neg_ℤ (pos (16 * f))))) (sym (one_vector f p h))
          (difference_spells f_code p (neg_ℤ (pos (16 * f))) least (omega (arith, ints), omega (arith, ints)));
    }
