-- What is struck after a list of moves, by what was struck before it.
use Rattle.std.proofs.Common.{◌≡◌, ℕ, ◌<◌, ◌≤◌, Bool, true, false, cond, ◌&&◌, eqb, ltb, ◌⊎◌, List, [], ◌∷◌, Decides, sym, refl, ◌∙◌, subst, inl, inr}
use Rattle.std.proofs.lemmas.Bool.{cases_eq, cases_lt, cond-true, cond-false, and_from, and_left, and_right, eq-eqb, ne_eqb, lt-ltb, le-ltb, false≢true}
use Rattle.striking.specs.declared.moves.Move.{Move}
use Rattle.striking.specs.declared.moves.Move.TheVariants.{Strike, Restore}
use Rattle.striking.specs.Moves.{named, strikes, Silent, LastStrikes, here, after}

-- whether v is struck after a move on a sheet of n candidates, if b says whether it was before
abbrev pub struck_once : ℕ → ℕ → Bool → Move → Bool
struck_once n v b m = cond (eqb (named m) v && ltb v n) (strikes m) b

abbrev pub struck_by : ℕ → ℕ → Bool → List Move → Bool
struck_by n v b [] = b
struck_by n v b (m ∷ ms) = struck_by n v (struck_once n v b m) ms

module _ (n v : ℕ) where
  once-outside : n ≤ v → (b : Bool) (m : Move) → struck_once n v b m ≡ b
  once-outside le b m = cond-false (eqb (named m) v && ltb v n) (strikes m) b (and_right (eqb (named m) v) (ltb v n) (le-ltb v n le))

  once-other : (b : Bool) (m : Move) → (named m ≡ v → ⊥) → struck_once n v b m ≡ b
  once-other b m other = cond-false (eqb (named m) v && ltb v n) (strikes m) b (and_left (eqb (named m) v) (ltb v n) (ne_eqb (named m) v other))

  once-named : v < n → (b : Bool) (m : Move) → named m ≡ v → struck_once n v b m ≡ strikes m
  once-named lt b m is = cond-true (eqb (named m) v && ltb v n) (strikes m) b (and_from (eqb (named m) v) (ltb v n) (eq-eqb (named m) v is) (lt-ltb v n lt))

  struck_by-outside : n ≤ v → (b : Bool) (ms : List Move) → struck_by n v b ms ≡ b
  struck_by-outside le b [] = refl
  struck_by-outside le b (m ∷ ms) = struck_by-outside le (struck_once n v b m) ms ∙ once-outside le b m

  struck_by-silent : (b : Bool) (ms : List Move) → Silent v ms → struck_by n v b ms ≡ b
  struck_by-silent b [] silent = refl
  struck_by-silent b (m ∷ ms) silent = struck_by-silent (struck_once n v b m) ms silent.1 ∙ once-other b m silent.0

  struck_by-last : v < n → (b : Bool) {ms : List Move} → LastStrikes v ms → struck_by n v b ms ≡ true
  struck_by-last lt b (here {later} silent) = struck_by-silent (struck_once n v b (Strike v)) later silent ∙ once-named lt b (Strike v) refl
  struck_by-last lt b (after {first} last) = struck_by-last lt (struck_once n v b first) last

  last-here : (m : Move) (ms : List Move) → named m ≡ v → strikes m ≡ true → Silent v ms → LastStrikes v (m ∷ ms)
  last-here (Strike u) ms is strike silent = subst (λ x. LastStrikes v (Strike x ∷ ms)) (sym is) (here silent)
  last-here (Restore u) ms is strike silent = absurd (false≢true strike)

  last-from-struck_by : v < n → (b : Bool) (ms : List Move) → struck_by n v b ms ≡ true → LastStrikes v ms ⊎ (Silent v ms × (b ≡ true))
  last-from-struck_by lt b [] is = inr (tt, is)
  last-from-struck_by lt b (m ∷ ms) is =
      elim (last-from-struck_by lt (struck_once n v b m) ms is) [
        | inl last ↦ inl (after last)
        | inr rest ↦ elim (cases_eq (named m) v) [
          | inl same ↦ inl (last-here m ms same (sym (once-named lt b m same) ∙ rest.1) rest.0)
          | inr other ↦ inr ((other, rest.0), sym (once-other b m other) ∙ rest.1)
        ]
      ]

  -- from none struck
  pub struck_by-decides : (ms : List Move) → Decides (struck_by n v false ms) ((v < n) × LastStrikes v ms)
  struck_by-decides ms = (
    λ is. elim (cases_lt v n) [
      | inl lt ↦ (lt, elim (last-from-struck_by lt false ms is) [ inl last ↦ last | inr rest ↦ absurd (false≢true rest.1) ])
      | inr le ↦ absurd (false≢true (sym (struck_by-outside le false ms) ∙ is))
    ],
    λ both. struck_by-last both.0 false both.1,
  )
