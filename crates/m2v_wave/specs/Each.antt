-- What is left where a closure was called at each element of a list.
use Rattle.std.specs.Prelude.{◌≡◌, List, All}
use denote.Ref.{MutBor}
use denote.Param.Members.{Shared}

module _ {F T : Type 0} (g : Shared F (MutBor T × Unit {0}) (Unit {0} × (MutBor T × Unit {0}))) (f : F) where
  -- f may be called with a `&mut` to x
  abbrev pub MayTake : T → Type 0
  MayTake x = (p : MutBor T) → p.now ≡ x → g.pre f (p, tt)

  -- a call of f left y
  pub record WasLeft (y : T) : Type 0 where
    pub before : MutBor T
    pub after : MutBor T
    pub call : g.post f (before, tt) (tt, (after, tt))
    pub left : after.now ≡ y

  -- those of each element, as one word, so that a closure's clauses stay short
  pub record MayTakeEach (xs : List T) : Type 0 where
    pub each : All MayTake xs

  pub record WereLeft (ys : List T) : Type 0 where
    pub each : All WasLeft ys
