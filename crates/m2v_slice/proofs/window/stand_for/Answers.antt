use Rattle.std.proofs.Common.{ℕ, Option, sym, subst}
use Rattle.m2v_slice.specs.Stands.{StandsFor}
use Rattle.m2v_slice.specs.declared.window.Stand.TheVariants.{Before, Absent}
use Rattle.m2v_slice.proofs.Stands.{stands_before, stands_absent}
use Rattle.m2v_slice.proofs.window.stand_for.Goals as goal

pub returns-in-None : goal.returns-in-None
returns-in-None c = record {
  value = subst (λ (o : Option ℕ). StandsFor c.args.book.now c.args.p c.args.r o Before) (sym c.in-None.is) (stands_before c.args.book.now c.args.p c.args.r);
}

pub returns-in-None-place_among : goal.returns-in-None-place_among
returns-in-None-place_among c = record {
  value = subst (λ (o : Option ℕ). StandsFor c.args.book.now c.args.p c.args.r o Absent) (sym c.in-Some.is)
      (stands_absent c.args.book.now c.args.p c.args.r c.in-Some.q c.needed.new.out c.needed.ensures.written c.in-None-place_among.ensures.none);
}
