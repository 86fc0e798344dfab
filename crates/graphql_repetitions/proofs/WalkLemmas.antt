-- Walks over references that check each of a list.
use Rattle.std.proofs.Common.{◌≡◌, ℕ, ◌+◌, ◌<◌, ◌≤◌, List, Bor, length, get_or, take, sym, subst, All}
use Rattle.graphql_diagnostics.specs.Reports.{Reports}
use Rattle.graphql_diagnostics.proofs.ReportLemmas.{done_more}
use Rattle.graphql_repetitions.specs.References.{nows}
use Rattle.graphql_repetitions.proofs.ReferenceLemmas.{nows_all, nows_more}

module _ {Entry T : Type 0} (P : T → Type 0) (Q : Entry → Type 0) (xs : List (Bor T)) where
  pub walked_more_now : (i : ℕ) (x : Bor T) (old mid new : List Entry) → i < length xs → x ≡ get_or xs i x →
      Reports (All P (nows (take i xs))) Q old mid → Reports (P x.now) Q mid new → Reports (All P (nows (take (i + 1) xs))) Q old new
  walked_more_now i x old mid new within item a b =
      subst (λ l. Reports (All P l) Q old new) (sym (nows_more xs i x within item)) (done_more P Q (nows (take i xs)) x.now old mid new a b)

  pub walked_all_now : (i : ℕ) (old new : List Entry) → length xs ≤ i →
      Reports (All P (nows (take i xs))) Q old new → Reports (All P (nows xs)) Q old new
  walked_all_now i old new past r = subst (λ l. Reports (All P l) Q old new) (nows_all xs i past) r
