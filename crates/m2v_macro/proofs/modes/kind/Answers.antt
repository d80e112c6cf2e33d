use Rattle.m2v_macro.proofs.Types.{read_i, read_p, read_b, in_i, in_p, in_b}
use Rattle.m2v_macro.proofs.modes.kind.Goals as goal

pub returns-in_ok-v-clause-known : goal.returns-in_ok-v-clause-known
returns-in_ok-v-clause-known c = in_i c.args.kind c.in_ok-v.v c.if-kind-eq1.true (read_i c.in_ok-v.v c.args.input.now.rest c.read_type_i.new.input.rest c.in_ok-v.ensures.exact)

pub returns-in_ok-v-2-clause-known : goal.returns-in_ok-v-2-clause-known
returns-in_ok-v-2-clause-known c = in_p c.args.kind c.in_ok-v-2.v c.if-kind-eq2.true (read_p c.in_ok-v-2.v c.args.input.now.rest c.read_type_p.new.input.rest c.in_ok-v-2.ensures.exact)

pub returns-in_ok-v-3-clause-known : goal.returns-in_ok-v-3-clause-known
returns-in_ok-v-3-clause-known c = in_b c.args.kind c.in_ok-v-3.v c.if-kind-eq1.false c.if-kind-eq2.false (read_b c.in_ok-v-3.v c.args.input.now.rest c.read_type_b.new.input.rest c.in_ok-v-3.ensures.exact)
