use Rattle.std.proofs.Common.{◌≡◌, ◌⊎◌, inl, inr, ap, Err, sym, ◌∙◌, Option, None, IsTrue, subst}
use Rattle.std.specs.Prelude.{is_some}
use Rattle.m2v_y4m.specs.declared.answer.Y4mFault.{Y4mFault}
use Rattle.m2v_y4m.specs.Reading.{ReadStops}
use Rattle.m2v_y4m.proofs.Steps.{is_broken}
use Rattle.m2v_y4m.proofs.unpacking.read_frame.Goals as goal

pub returns-in-Some-clause-err : goal.returns-in-Some-clause-err
unfolding ReadStops
returns-in-Some-clause-err g c =
    (is_broken c.read_whole.new.reader c.in-Some.fault _ (sym c.fault.ensures.value ∙ c.in-Some.is), c.in-Err.ensures.broke)

-- where no fault was found, the count rose
rose : {P : Type 0} (fault : Option Y4mFault) → fault ≡ None → P ⊎ IsTrue (is_some fault) → P
rose fault none (inl r) = r
rose fault none (inr some) = absurd (no (subst (λ o. IsTrue (is_some o)) none some))
  where
    no : IsTrue (is_some {T = Y4mFault} None) → ⊥
    no e = absurd (cc)

pub returns-in-Failed-clause-err : goal.returns-in-Failed-clause-err
unfolding ReadStops
returns-in-Failed-clause-err g c =
    let none = sym c.fault.ensures.value ∙ c.in-None.is in
    (rose c.read_whole.new.reader.fault none (c.in-Err.ensures.failed (ap Err c.in-Failed.is)), c.in-Err.ensures.err none)

pub returns-in-Memory-clause-err : goal.returns-in-Memory-clause-err
unfolding ReadStops
returns-in-Memory-clause-err g c = c.in-Err.ensures.err (sym c.fault.ensures.value ∙ c.in-None.is)
