-- A walk over units, each with the bit where it begins: what was said so far, and what the walk says of the units that are left,
-- is what it says of all.
use Rattle.std.proofs.Common.{◌≡◌, ℕ, ◌+◌, ◌*◌, ◌^◌, ◌≤◌, List, [], ◌∷◌, ◌++◌, length, sym, ap, subst, ◌∙◌, append_assoc, arith}
use Rattle.std.proofs.lemmas.List.{append-nil}
use Rattle.m2v_model.specs.Units.{Units, unit_bits}

-- the units that are left begin at a bit
pub record Walked {V : Type 0} (from : ℕ → Units → List V) (first : ℕ) (all : Units) (said : List V) (bit : ℕ) (us : Units) : Type 0 where
  pub is : said ++ from bit us ≡ from first all
  pub most : bit + unit_bits us ≤ 2 ^ 42

-- one of them says this, and the walk goes on
pub walked_more : {V : Type 0} (from : ℕ → Units → List V) (first bit next : ℕ) (all us mid : Units) (u : List ℕ) (said more here : List V) → Walked from first all said bit us → us ≡ u ∷ mid
    → from bit (u ∷ mid) ≡ here ++ from (bit + 8 * length u) mid → more ≡ said ++ here → next ≡ bit + 8 * length u → Walked from first all more next mid
walked_more {V} from first bit next all us mid u said more here h e on told is =
    let at = subst (λ (l : Units). Walked from first all said bit l) e h in
    record {
      is = rw (told, is) (append_assoc said here (from (bit + 8 * length u) mid) ∙ ap (λ (l : List V). said ++ l) (sym on) ∙ at.is);
      most = omega (arith, at.most, is);
    }

-- it ends where it says nothing of those that are left
pub walked_all : {V : Type 0} (from : ℕ → Units → List V) (first bit : ℕ) (all us rest : Units) (said : List V) → Walked from first all said bit us → us ≡ rest → from bit rest ≡ [] → said ≡ from first all
walked_all {V} from first bit all us rest said h e none =
    let at = subst (λ (l : Units). Walked from first all said bit l) e h in
    sym (append-nil said) ∙ ap (λ (l : List V). said ++ l) (sym none) ∙ at.is
