use Rattle.std.proofs.Common.{ℕ, leb, cond, bit_and, refl, take}
use Rattle.std.proofs.lemmas.Simd.{zip2_splat, length-chunk}
use Rattle.graphql_tokens.specs.Scans.{belongs}
use Rattle.graphql_tokens.specs.declared.characters.Class.TheVariants.{NamePart}
use Rattle.graphql_tokens.proofs.LoadLemmas.{joined, splat_is, load_run}
use Rattle.graphql_tokens.proofs.loads.name_bytes.Goals as goal

pub returns : goal.returns
returns c =
    let v = take 16 c.args.text.now in
    let long = length-chunk 0 16 c.args.text.now c.requires in
    load_run (belongs NamePart) c.args.text.now _ _ c.requires c.type_inv.text c.first_set.ensures _
    (joined bit_and _ _ v (joined bit_and _ _ v (joined (λ a b. cond (leb a b) 255 0) _ _ v (splat_is v 16 26 long) (joined _ _ _ v (zip2_splat {Y = ℕ} _ v 16 32 long) (splat_is v 16 97 long))) (joined (λ a b. cond (leb a b) 255 0) _ _ v (splat_is v 16 10 long) (zip2_splat {Y = ℕ} _ v 16 48 long))) (zip2_splat {Y = ℕ} _ v 16 95 long)) refl
