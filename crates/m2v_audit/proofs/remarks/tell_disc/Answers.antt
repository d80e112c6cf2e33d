use Rattle.std.proofs.Common.{◌≡◌, ℕ, [], ◌∷◌, ◌++◌, Result, Ok, Err, OnOk, refl, ap, ◌∙◌}
use Rattle.m2v_strict.specs.Remarks.{Remarks}
use Rattle.m2v_audit.specs.Findings.{remarked_at, with_remarks}
use Rattle.m2v_audit.specs.Report.{Report, with_finding}
use Rattle.m2v_audit.proofs.remarks.tell_disc.Goals as goal

-- remarks behind others
remarks_on : (r : Report) (picture bit : ℕ) (xs ys : Remarks) → with_remarks (with_remarks r picture bit xs) picture bit ys ≡ with_remarks r picture bit (xs ++ ys)
unfolding with_remarks
remarks_on r picture bit [] ys = refl
remarks_on r picture bit (x ∷ xs) ys = remarks_on (with_finding r (remarked_at picture bit x)) picture bit xs ys

both_told : {E : Type 0} (result : Result (Unit {0}) E) (old mid new : Report) (picture bit : ℕ) (xs ys : Remarks) → mid ≡ with_remarks old picture bit xs
    → OnOk result (new ≡ with_remarks mid picture bit ys) → OnOk result (new ≡ with_remarks old picture bit (xs ++ ys))
both_told (Ok done) old mid new picture bit xs ys is told = told ∙ ap (λ (r : Report). with_remarks r picture bit ys) is ∙ remarks_on old picture bit xs ys
both_told (Err e) old mid new picture bit xs ys is told = tt

pub returns : goal.returns
returns c =
    let first = rw c.dvd_rules.ensures at c.in_ok-tell_remarks.ensures in
    let then = rw c.like_warning.ensures at c.tell_remarks-2.ensures in
    both_told c.tell_remarks-2.result c.args.report.now c.tell_remarks.new.report c.tell_remarks-2.new.report c.args.place.picture c.args.place.bit _ _ first then
