use Rattle.std.proofs.Common.{arith, sym, ap, ◌∙◌, ◌≡◌, ◌%◌, ◌++◌, List, ℕ, length, take}
use Rattle.m2v_bits.specs.Bits.{Written, bits, bits_of, packed}
use Rattle.m2v_bits.proofs.Cursor.{whole_bytes}
use Rattle.m2v_bits.proofs.writer.BitWriter.bytes.Goals as goal

same : (c : goal.After-whole_bytes) → bits c.whole_bytes.result.now ≡ c.args.self.now.written
same c =
    let edge : length (bits (take c.self.inside.used c.self.inside.buf.items) ++ bits_of c.self.inside.held c.self.inside.pending) % 8 ≡ 0 = rw (ap (λ (w : Written). w.written) c.self.view_is) c.requires in
    rw (c.whole_bytes.ensures.bits, c.deref.ensures.value, ← c.self.view_is) (sym (whole_bytes c.self.inside.buf.items c.self.inside.used c.self.inside.held c.self.inside.pending (omega (arith, c.self.invariant.1)) c.self.invariant.0 edge))

pub returns-clause-bits : goal.returns-clause-bits
returns-clause-bits c = same c

pub returns-clause-value : goal.returns-clause-value
returns-clause-value c = c.whole_bytes.ensures.packed ∙ ap (λ (xs : List ℕ). packed (bits xs)) (sym c.whole_bytes.ensures.bits) ∙ ap packed (same c)
