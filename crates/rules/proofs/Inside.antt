-- What of a set is a candidate of the sheet.
use Rattle.std.proofs.Common.{◌≡◌, ℕ, ◌&&◌, ltb, List, sym, ◌∙◌, arith}
use Rattle.std.proofs.lemmas.Bool.{and_parts, ltb-true}
use Rattle.std.proofs.lemmas.Bool.Decides.{nat_tests}
use Rattle.candidates.specs.declared.set.CandidateSet.{CandidateSet}
use Rattle.candidates.specs.Members.{has, members}
use Rattle.candidates.specs.Sets.{is_in, Ascending, counting}
use Rattle.candidates.proofs.Marks.{members_kept}
use Rattle.candidates.proofs.Sets.{from-kept-by, is_in-kept-by, is_in-counting, kept-by-all}
use Rattle.sheets.specs.Meaning.{Meaning, Lawful}
use Rattle.rules.specs.Bounds.{Candidates, inside}

-- the set that holds those below size, and those that are in both
pub members-inside : (m : Meaning) → Lawful m → (n : ℕ) (s below r : CandidateSet) → n ≡ m.size → ((k : ℕ) → has below k ≡ (ltb k n && ltb k 256)) → ((k : ℕ) → has r k ≡ (has s k && has below k)) → members r ≡ inside m (members s)
members-inside m law n s below r is low both =
    members_kept s r (λ k. ltb k m.size) (λ k. let most = law.most in let a = low k in let b = both k in grind (arith, nat_tests))

pub inside-candidates : (m : Meaning) (xs : List ℕ) → Ascending xs → Candidates m (inside m xs)
inside-candidates m xs up = record {
  ascending = from-kept-by (λ k. ltb k m.size) 0 xs up;
  below = λ v e. ltb-true v m.size (and_parts (ltb v m.size) (is_in v xs) (sym (is_in-kept-by (λ k. ltb k m.size) v xs) ∙ e)).0;
}

-- all candidates are inside
pub inside-all : (m : Meaning) → inside m (counting 0 m.size) ≡ counting 0 m.size
inside-all m = kept-by-all (λ k. ltb k m.size) (counting 0 m.size) (λ k e. let i = is_in-counting k 0 m.size in grind (arith, nat_tests))
