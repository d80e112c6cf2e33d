-- What stands behind the removal of a picture.
use Rattle.std.proofs.Common.{◌≡◌, ℕ, ◌+◌, ◌*◌, ◌^◌, ◌≤◌, Bool, true, false, Option, Some, None, refl, sym, ap, subst, arith}
use Rattle.std.specs.Prelude.{if◌then◌else◌, nat_eq, ◌||◌}
use Rattle.std.proofs.lemmas.Bool.{leb-true}
use Rattle.m2v_vbv.specs.Account.{State, after}
use Rattle.m2v_vbv.specs.declared.fault.AccountFault.{AccountFault}
use Rattle.m2v_check.specs.declared.course.Next.{Next}
use Rattle.m2v_check.specs.declared.course.Course.{Course}
use Rattle.m2v_check.specs.Holding.{exact_at, is_whole, course_after, course_under, removed_by, IsExact, IsSound, IsNext, stepped}

more_time : (k t u : ℕ) → k * (t + u) ≡ k * t + k * u
more_time k t u = omega arith

pub exact_after : (a : State) (removed bits units : ℕ) → IsExact a removed → 1800 * bits ≤ a.held → IsExact (after a bits units) (removed + bits)
exact_after a removed bits units e le = let m = more_time a.start.k a.time units in omega arith

delays_most : (b : Bool) (delays pictures : ℕ) → delays ≤ pictures → (if b then delays else delays + 1) ≤ pictures + 1
delays_most true d p le = omega arith
delays_most false d p le = omega arith

sound_whole : (c : Course) (next : Next) → c.under ≡ None → IsSound c → IsNext next → c.total + next.bits ≤ 2 ^ 40 → 1800 * c.next.bits ≤ c.account.held
    → IsSound (record (course_after c) { next = next; total = c.total + next.bits })
sound_whole c next none s n most whole = record {
  exact = λ e. exact_after c.account c.removed c.next.bits c.next.units (s.exact none) whole;
  begun = λ e. let b = s.begun none in omega (arith, b, s.code);
  code = n.code;
  units = n.units;
  bits = omega (arith, s.bits);
  most = most;
  few = omega (arith, s.few);
  least = n.least;
  counted = omega (arith, s.counted, s.code, s.least);
  delays = delays_most (nat_eq c.pictures 0 || nat_eq c.next.delay (exact_at c.account c.removed c.next.code)) c.delays c.pictures s.delays;
}

sound_failed : (c d : Course) (f : AccountFault) (next : Next) → d ≡ record c { under = Some f } → IsSound c → IsNext next → c.total + next.bits ≤ 2 ^ 40 → IsSound (record d { next = next; total = c.total + next.bits })
sound_failed c d f next e s n most = subst (λ (x : Course). IsSound (record x { next = next; total = c.total + next.bits })) (sym e) (record {
  exact = λ q. absurd cc;
  begun = λ q. absurd cc;
  code = n.code;
  units = n.units;
  bits = omega (arith, s.bits);
  most = most;
  few = s.few;
  least = n.least;
  counted = s.counted;
  delays = s.delays;
})

sound_by : (c : Course) (next : Next) (u : Option AccountFault) (b : Bool) → c.under ≡ u → is_whole c ≡ b → IsSound c → IsNext next → c.total + next.bits ≤ 2 ^ 40 → IsSound (record (removed_by u c) { next = next; total = c.total + next.bits })
sound_by c next (Some f) b e w s n most = sound_failed c c f next (ap (λ (x : Option AccountFault). record c { under = x }) e) s n most
sound_by c next None true e w s n most =
    subst (λ (x : Bool). IsSound (record (if x then course_after c else course_under c) { next = next; total = c.total + next.bits })) (sym w)
    (sound_whole c next e s n most (leb-true _ _ w))
sound_by c next None false e w s n most =
    subst (λ (x : Bool). IsSound (record (if x then course_after c else course_under c) { next = next; total = c.total + next.bits })) (sym w)
    (sound_failed c (course_under c) _ next refl s n most)

pub sound_stepped : (c : Course) (next : Next) → IsSound c → IsNext next → c.total + next.bits ≤ 2 ^ 40 → IsSound (stepped c next)
sound_stepped c next s n most = sound_by c next c.under (is_whole c) refl refl s n most

pub total_kept : (u : Option AccountFault) (b : Bool) (c : Course) → is_whole c ≡ b → (removed_by u c).total ≡ c.total
total_kept (Some f) b c e = refl
total_kept None true c e = rw e refl
total_kept None false c e = rw e refl
