-- What stands after coding stands by what the endpoints tell: it stands for each change of input and recon that tells it too.
use Rattle.std.proofs.Common.{◌≡◌, inl, inr, refl, ℕ, List, ◌∷◌, []}
use Rattle.m2v_port.specs.Ends.{Change}
use Rattle.m2v_port.specs.Port.{Moves, IsAtEnd, Grows, GrowsByPrefix}
use Rattle.m2v_set.specs.declared.settings.Settings.{Settings}
use Rattle.m2v_encode.specs.declared.answer.Summary.{Summary}
use Rattle.m2v_encode.specs.declared.answer.EncodeError.{EncodeError}
use Rattle.m2v_encode.specs.declared.answer.EncodeError.TheVariants.{Read, Write, ShortFrame, NoFrames, TooManyFrames, Memory}
use Rattle.m2v_encode.specs.Answers.{AllCoded, Unended, CutOff, FailedInside, Stops}

-- what the one change of each tells, the other one tells too
pub record TellAlike (left recon left' recon' : Change) : Type 0 where
  pub moved : (bytes : List ℕ) → Moves left.old bytes left.new → Moves left'.old bytes left'.new
  pub end : IsAtEnd left.new → IsAtEnd left'.new
  pub shown : (bytes : List ℕ) → Grows recon.old bytes recon.new → Grows recon'.old bytes recon'.new
  pub part : (bytes : List ℕ) → GrowsByPrefix recon.old bytes recon.new → GrowsByPrefix recon'.old bytes recon'.new
  pub same : recon.Unchanged → recon'.Unchanged

module _ (left recon left' recon' : Change) (a : TellAlike left recon left' recon') (s : Settings) (held : Change) where
  pub coded_alike : (t : Summary) → AllCoded s left held recon t → AllCoded s left' held recon' t
  coded_alike t h = record {
    frames = h.frames;
    some = h.some;
    most = h.most;
    whole = h.whole;
    moved = a.moved _ h.moved;
    end = a.end h.end;
    grown = h.grown;
    shown = a.shown _ h.shown;
    numbers = h.numbers;
    headline = h.headline;
  }

  pub begun_alike : (frames : List (List ℕ)) (part : List ℕ) → Unended s left held recon frames part → Unended s left' held recon' frames part
  begun_alike frames part h = record {
    most = h.most;
    whole = h.whole;
    moved = a.moved _ h.moved;
    grown = h.grown;
    shown = a.shown _ h.shown;
    unwritten = λ none. ((h.unwritten none).0, a.same (h.unwritten none).1);
  }

  cut_alike : CutOff s left held recon → CutOff s left' held recon'
  cut_alike h = record {
    frames = h.frames;
    part = h.part;
    most = h.most;
    whole = h.whole;
    less = h.less;
    moved = a.moved _ h.moved;
    grown = h.grown;
    shown = a.part _ h.shown;
    unwritten = λ none. ((h.unwritten none).0, a.same (h.unwritten none).1);
  }

  inside_alike : FailedInside s left held recon → FailedInside s left' held recon'
  inside_alike h = record { frames = h.frames; part = h.part; begun = begun_alike h.frames h.part h.begun; less = h.less }

  pub stops_alike : (e : EncodeError) → (e ≡ Read → left.Failed → left'.Failed) → (recon.Failed → recon'.Failed) → Stops s left held recon e → Stops s left' held recon' e
  unfolding Stops
  stops_alike Read failed rose h = (failed refl h.0, inside_alike h.1)
  stops_alike Write failed rose h = (elim h.0 [ inl o ↦ inl o | inr n ↦ inr (rose n) ], cut_alike h.1)
  stops_alike (ShortFrame extra) failed rose h = record {
    frames = h.frames;
    part = h.part;
    begun = begun_alike h.frames h.part h.begun;
    bytes = h.bytes;
    fewer = h.fewer;
    count = h.count;
    some = h.some;
    less = h.less;
    end = a.end h.end;
  }
  stops_alike NoFrames failed rose h = record { moved = a.moved _ h.moved; end = a.end h.end; same = (h.same.0, a.same h.same.1) }
  stops_alike TooManyFrames failed rose h = record {
    frames = h.frames;
    next = h.next;
    begun = begun_alike h.frames (h.next ∷ []) h.begun;
    byte = h.byte;
    all = h.all;
  }
  stops_alike Memory failed rose h = cut_alike h
