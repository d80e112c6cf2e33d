-- Why coding stopped, from why one of its steps did.
use Rattle.std.proofs.Common.{◌≡◌, ℕ, ◌<◌, List, length, subst, inl, inr}
use Rattle.m2v_bits.specs.Bits.{packed, start_code}
use Rattle.m2v_port.specs.Ends.{Change}
use Rattle.m2v_port.specs.Port.{Moves, GrowsByPrefix}
use Rattle.m2v_plane.specs.Raw.{frame_bytes}
use Rattle.m2v_flat.specs.declared.settings.FlatSettings.{FlatSettings}
use Rattle.m2v_flat.specs.declared.answer.EncodeError.{EncodeError}
use Rattle.m2v_flat.specs.declared.answer.EncodeError.TheVariants.{Read, Write}
use Rattle.m2v_flat.specs.Steps.{Unwritten, NextCut, NextLost, NextStops, EndStops, StoppedBy, ReadStops, PutStops}
use Rattle.m2v_flat.specs.Flat.{FlatFrame}

-- a frame that wasn't read
pub next_lost : (s : FlatSettings) (number : ℕ) (left held : Change) (e : EncodeError) → Unwritten held
    → ReadStops (frame_bytes s.dims) left e → NextStops s number left held e
unfolding NextStops
next_lost s number left held e kept h = by_why h.why
  where
    lost : NextLost s left held
    lost = record { moved = h.moved; unwritten = kept }

    by_why : StoppedBy Read left e → NextStops s number left held e
    by_why (inl failed) = rw failed.0 (failed.1, lost)
    by_why (inr memory) = rw memory (inl lost)

-- a frame that wasn't written
pub next_cut : (s : FlatSettings) (number : ℕ) (left held : Change) (frame bytes : List ℕ) (e : EncodeError)
    → length frame ≡ frame_bytes s.dims → Moves left.old frame left.new → bytes ≡ FlatFrame s number frame
    → PutStops bytes held e → NextStops s number left held e
unfolding NextStops
next_cut s number left held frame bytes e whole moved is h = by_why h.why
  where
    cut : NextCut s number left held
    cut = record { frame = frame; whole = whole; moved = moved; grown = subst (λ (b : List ℕ). GrowsByPrefix held.old b held.new) is h.grown }

    by_why : StoppedBy Write held e → NextStops s number left held e
    by_why (inl failed) = rw failed.0 (failed.1, cut)
    by_why (inr memory) = rw memory (inr cut)

-- an end that wasn't written
pub end_cut : (number : ℕ) (held : Change) (bytes : List ℕ) (e : EncodeError) → 0 < number → bytes ≡ packed (start_code 0xB7)
    → PutStops bytes held e → EndStops number held e
unfolding EndStops
end_cut number held bytes e some is h = by_why h.why
  where
    cut : GrowsByPrefix held.old (packed (start_code 0xB7)) held.new
    cut = subst (λ (b : List ℕ). GrowsByPrefix held.old b held.new) is h.grown

    by_why : StoppedBy Write held e → EndStops number held e
    by_why (inl failed) = rw failed.0 (failed.1, some, cut)
    by_why (inr memory) = rw memory (some, cut)
