-- What each step does to a view, and what it tells its pass.
use Rattle.std.specs.Prelude.{◌≡◌, ◌≢◌, ℕ, ◌+◌, ◌-◌, ◌<◌, ◌≤◌, [], ◌∷◌, ◌++◌, Some, None}
use Rattle.atomic_table.specs.Table.{Me, rest}
use Rattle.m2v_board.specs.declared.view.View.{View}
use Rattle.m2v_board.specs.Rule.{first_view, times}

abbrev pub draw : View → ℕ → View
draw v r = record v { drawn = v.drawn ++ r ∷ [] }

abbrev pub publish : View → ℕ → View
publish v j = record v { published = v.published ++ j ∷ [] }

abbrev pub borrow : View → ℕ → View
borrow v j = record v { borrowed = v.borrowed ++ j ∷ []; holds = Some j }

abbrev pub give_back : View → View
give_back v = record v { holds = None }

-- one pass fewer, and that pass
abbrev pub fewer : View → View
fewer v = record v { passes = v.passes - 1 }

abbrev pub one_pass : View → View
one_pass v = first_view v.jobs 1

abbrev pub both : View → View → View
both v w = record {
  jobs = v.jobs;
  drawn = v.drawn ++ w.drawn;
  published = v.published ++ w.published;
  borrowed = v.borrowed ++ w.borrowed;
  holds = None;
  passes = v.passes + w.passes;
}

module _ {S : Type 0} (IsSo : ℕ → S → Type 0) where
  abbrev pub drew : Me S View → ℕ → Me S View → Type 0
  drew m r n = (n.0 ≡ draw m.0 r) × (m.0.jobs ≤ r → n.1 ≡ m.1) × (r < m.0.jobs → (x : S) × IsSo r x × (n.1 ≡ (r, x) ∷ m.1)) × (times r m.0.drawn ≡ 0)

  -- at the word of the job j, where r was found
  abbrev pub lent : ℕ → Me S View → ℕ → Me S View → Type 0
  lent j m r n = (r ≡ 1 → (x : S) × IsSo j x × (n ≡ (borrow m.0 j, (j, x) ∷ m.1))) × (r ≢ 1 → n ≡ m)

module _ {S : Type 0} where
  abbrev pub raised : ℕ → Me S View → Me S View → Type 0
  raised j m n = n ≡ (publish m.0 j, rest m.1)

  abbrev pub returned : Me S View → Me S View → Type 0
  returned m n = n ≡ (give_back m.0, rest m.1)
