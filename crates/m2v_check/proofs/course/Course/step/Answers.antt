use Rattle.std.proofs.Common.{ℕ, ◌+◌, subst, sym, refl}
use Rattle.m2v_check.specs.declared.course.Course.{Course}
use Rattle.m2v_check.specs.Holding.{IsSound, removed_by}
use Rattle.m2v_check.proofs.CourseLaws.{sound_stepped, total_kept}
use Rattle.m2v_check.proofs.course.Course.step.Goals as goal

pub returns-clause-sound : goal.returns-clause-sound
returns-clause-sound c =
    let old = c.args.self.now in
    let n = c.args.next.now in
    subst (λ (x : Course). IsSound (record x { next = n; total = x.total + n.bits })) (sym c.remove-amount.ensures.value)
    (subst (λ (t : ℕ). IsSound (record (removed_by old.under old) { next = n; total = t + n.bits })) (sym (total_kept old.under _ old refl))
    (sound_stepped old n c.requires.sound c.requires.next c.requires.most))
