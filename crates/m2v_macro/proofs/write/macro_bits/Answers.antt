use Rattle.std.proofs.Common.{arith, [], refl}
use Rattle.m2v_macro.proofs.Lengths.{macro_most}
use Rattle.m2v_macro.proofs.write.macro_bits.Goals as goal

pub put_macro-requires-clause-room : goal.put_macro-requires-clause-room
put_macro-requires-clause-room c = omega (arith, macro_most c.args.context.now c.args.state.now c.args.m.now c.requires.context c.requires.fits)

pub returns-clause-value : goal.returns-clause-value
returns-clause-value c = c.put_macro.ensures.taken [] refl

pub returns-clause-most : goal.returns-clause-most
returns-clause-most c = omega (arith, macro_most c.args.context.now c.args.state.now c.args.m.now c.requires.context c.requires.fits, c.put_macro.ensures.taken [] refl)
