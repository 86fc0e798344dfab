-- Comments that ignore nothing.
use Rattle.std.proofs.Common.{◌≡◌, ℕ, Bor, List, [], None, Option, Some, not, refl, subst, sym, true}
use Rattle.std.specs.BTreeMap.{is_at}
use Rattle.std.specs.List.{list_any}
use Rattle.graphql_nodes.specs.declared.spans.SourceSpan.{SourceSpan}
use Rattle.gqlvalidate_formats.specs.NamedTexts.{Text}
use Rattle.gqlvalidate_runs.specs.Ignored.{Spot, is_ignored, is_ignored_spot, spot_at, spot_order}
use Rattle.gqlvalidate_runs.specs.declared.comments.Comments.{Comments}

pub nothing_is_ignored : (comments : Comments) (texts : List Text) (first : ℕ → ℕ) (rule : Bor (List ℕ)) (place : Option SourceSpan) → comments.ignored.keys ≡ [] →
    not (is_ignored comments texts first rule place) ≡ true
nothing_is_ignored comments texts first rule place none = by (spot_at texts first rule place) where
  by : (spot : Option Spot) → not (is_ignored_spot comments spot) ≡ true
  by None = refl
  by (Some spot) = subst (λ l. not (list_any (is_at (spot_order spot)) l) ≡ true) (sym none) refl
