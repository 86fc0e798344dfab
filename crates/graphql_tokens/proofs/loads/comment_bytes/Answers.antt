use Rattle.std.proofs.Common.{ℕ, refl, take}
use Rattle.std.proofs.lemmas.Simd.{zip2_splat, length-chunk}
use Rattle.graphql_tokens.specs.Scans.{belongs}
use Rattle.graphql_tokens.specs.declared.characters.Class.TheVariants.{Comment}
use Rattle.graphql_tokens.proofs.LoadLemmas.{joined, load_run}
use Rattle.graphql_tokens.proofs.loads.comment_bytes.Goals as goal

pub returns : goal.returns
returns c =
    let v = take 16 c.args.text.now in
    let long = length-chunk 0 16 c.args.text.now c.requires in
    load_run (belongs Comment) c.args.text.now _ _ c.requires c.type_inv.text c.first_set.ensures _
    (joined _ _ _ v (zip2_splat {Y = ℕ} _ v 16 32 long) (zip2_splat {Y = ℕ} _ v 16 9 long)) refl
