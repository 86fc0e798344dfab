use Rattle.std.proofs.Common.{◌≡◌, ◌∙◌, ◌+◌, [], ◌∷◌, ◌++◌, ap, inl, inr, map, rules, string_bytes, subst, sym, take}
use Rattle.std.specs.List.{AllZip}
use Rattle.std.proofs.lemmas.List.{take_more}
use Rattle.std.proofs.lemmas.Slice.Zip.{all_zipped_more}
use Rattle.gqlvalidate_settings.specs.Configurations.{IsNamedProject}
use Rattle.gqlvalidate_settings.proofs.ConfigurationLemmas.{zip_at}
use Rattle.gqlvalidate_settings.proofs.configurations.each_project.Goals as goal

pub returns-in-Err-clause-refused : goal.returns-in-Err-clause-refused
returns-in-Err-clause-refused c = λ not_memory projects all.
    let R = IsNamedProject c.args.folder.now (map string_bytes c.args.shared.now) in
    let found = zip_at R c.args.named.now projects c.loop-member.member-index c.member-item.result c.loop-member-test.true all in
    let is : R c.member-item.result found.0 = subst (λ member. R member found.0) (sym c.member-item.is) found.1 in
    elim c.refused_in.ensures [
      | inl same ↦ c.in-Err.ensures.refused (λ memory. not_memory (same ∙ memory)) found.0 is
      | inr memory ↦ absurd (not_memory memory)
    ]

pub loop-member-preserved : goal.loop-member-preserved
loop-member-preserved c =
    let R = IsNamedProject c.args.folder.now (map string_bytes c.args.shared.now) in
    let named = c.args.named.now in
    let i = c.loop-member.member-index in
    let member = c.member-item.result in
    let old = c.loop-member.projects.items in
    let pushed : c.push.new.self.items ≡ old ++ c.in-Ok.project ∷ [] = search rules in
    let taken : take (i + 1) named ≡ take i named ++ member ∷ [] = take_more named i member c.loop-member-test.true ∙ ap (λ x. take i named ++ x ∷ []) (sym c.member-item.is) in
    subst (λ projects. AllZip R (take (i + 1) named) projects) (sym pushed)
    (subst (λ members. AllZip R members (old ++ c.in-Ok.project ∷ [])) (sym taken)
    (all_zipped_more R (take i named) old member c.in-Ok.project c.loop-member.invariant c.in-Ok.ensures.project))
