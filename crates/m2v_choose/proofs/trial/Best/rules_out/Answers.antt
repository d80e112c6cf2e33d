use Rattle.std.proofs.Common.{◌≡◌, ℕ, Bool, true, false, sym, subst, refl, arith}
use Rattle.std.proofs.lemmas.Bool.{leb-true}
use Rattle.m2v_choose.specs.Trials.{IsLeast}
use Rattle.m2v_choose.proofs.Cheapest.{left}
use Rattle.m2v_choose.proofs.trial.Best.rules_out.Goals as goal

pub returns : goal.returns
returns c = λ yes r p q same samples rated.
    let t = c.args.task.now in
    let plain = c.args.plain.now in
    let dct = c.args.dct_field in
    let least : IsLeast t plain dct c.least_of.result =
    by_type (IsLeast t plain) dct c.least_of.result plain.frame_least plain.field_least c.least_of.ensures.frame c.least_of.ensures.field c.requires.measured.least (λ e. c.requires.measured.field_least (c.requires.dct e)) in
    left r t p plain.bare.now same c.requires.bare.other (record { q = q; dct_field = dct }) least.header least.bits plain.prediction.now.at samples c.are_bytes.ensures c.args.self.now rated
    (omega (arith, leb-true c.args.self.now.below c.least_of.result yes, least.value))
  where
    by_type : (P : Bool → ℕ → Type 0) (dct : Bool) (n a b : ℕ) → (dct ≡ false → n ≡ a) → (dct ≡ true → n ≡ b) → P false a → (dct ≡ true → P true b) → P dct n
    by_type P false n a b ea eb pa pb = subst (P false) (sym (ea refl)) pa
    by_type P true n a b ea eb pa pb = subst (P true) (sym (eb refl)) (pb refl)
