use Rattle.std.proofs.Common.{◌≡◌, ◌∙◌, ◌++◌, [], map, subst, sym}
use Rattle.std.specs.Prelude.{All, OnOk}
use Rattle.graphql_diagnostics.specs.Reports.{KeepsReports}
use Rattle.graphql_frontend.specs.Documents.{IsOnlyOff}
use Rattle.graphql_frontend.specs.RuleSets.{RuleSet}
use Rattle.graphql_nodes.specs.Names.{AreDistinct}
use Rattle.graphql_projects.specs.OperationTrees.{Pool, fragments_among}
use Rattle.graphql_projects.specs.Projects.{ProjectHoldsBut}
use Rattle.graphql_project_checking.specs.Silence.{BuildAll, FilesHold, QuietOnlyIf}
use Rattle.graphql_project_checking.specs.Truth.{AddsOfParts, AddsTrue, AreErrorsOf, AreOfBuilding, AreOfOneDocument, AreOfWhole, IsFragmentNameReport}
use Rattle.graphql_project_checking.proofs.KnownLemmas.{adds_parts, adds_whole}
use Rattle.graphql_project_checking.proofs.ProjectLemmas.{name_of, project_holds, same_pool}
use Rattle.graphql_project_checking.proofs.SilenceLemmas.{building_is_not_off, errors_are_not_off, none_was_added, on_ok, part_of_off, rules_of_building_are_not_off}
use Rattle.graphql_project_checking.proofs.projects.check_texts.Goals as goal

-- all was silent before: what the calls found of names and of what builds
pub returns-then-is_silent : goal.returns-then-is_silent
returns-then-is_silent c =
    let s = c.args.schema.now in
    let b = c.args.bounds in
    let own = c.in_ok-own.own.items in
    let trees = c.in_ok-lent.lent.items in
    let lent = c.in_ok-built.built in
    let found = c.args.found.now.lists.items in
    let last = c.build_lent_files.new.found.items in
    let new = c.check_whole.new.found.lists.items in
    let quiet : last ≡ [] = sym c.as_slice-2.ensures.value ∙ (c.is_silent.ensures.0 c.if-is_silent.true).1 in
    let fifth = c.in_ok-built.ensures.silence quiet in
    let fourth = c.in_ok-files.ensures.silence fifth.0 in
    let own_build = subst (λ l. BuildAll s l c.in_ok-files.files.items) c.deref-3.ensures.value fourth.1 in
    let builds = subst (λ l. BuildAll s l c.in_ok-files.files.items) (sym c.deref-then-is_silent.ensures.value) own_build in
    let lent_builds = subst (BuildAll s lent.documents.items) (sym c.deref-then-is_silent-2.ensures.value) fifth.1.build in
    let third = c.in_ok-check_fragment_names.ensures.silence fourth.0 in
    let second = c.in_ok-lent.ensures.silence third.0 in
    let first = c.in_ok-own.ensures.silence second.0 in
    record {
      others = λ is_all empty.
          let names : AreDistinct (map name_of (fragments_among (own ++ trees))) =
          subst (λ l. AreDistinct (map name_of (fragments_among (own ++ l)))) c.deref-2.ensures.value
          (subst (λ l. AreDistinct (map name_of (fragments_among (l ++ c.deref-2.result.now)))) c.deref.ensures.value third.1) in
          let distinct = subst (λ (l : Pool). AreDistinct (map name_of l)) (sym (same_pool own trees lent.documents.items fifth.1.fragments)) names in
          let whole = c.check_whole.ensures.silence lent.documents.items c.requires builds lent_builds
          (subst (λ l. AreDistinct (map name_of (fragments_among (l ++ lent.documents.items)))) (sym c.deref-then-is_silent.ensures.value) distinct) in
          let hold = subst (λ l. OnOk c.check_whole.result (QuietOnlyIf last new (λ off. FilesHold off s l lent.documents.items))) c.deref-then-is_silent.ensures.value whole in
          on_ok (QuietOnlyIf last new (λ off. FilesHold off s own lent.documents.items))
          ((off : RuleSet) → All (IsOnlyOff off) new → ProjectHoldsBut off b s c.args.sources.now c.args.lent.now)
          (λ quiet off all. project_holds off b s c.args.sources.now c.args.lent.now own trees lent first.1 second.1 names own_build.0 fifth.1 (quiet off all).1)
          c.check_whole.result hold;
      truth =
          let whole = c.check_whole.ensures.truth lent.documents.items c.requires builds lent_builds in
          let adds = subst (λ l. OnOk c.check_whole.result (KeepsReports (AreOfWhole b s (fragments_among (l ++ lent.documents.items)) l) last new)) c.deref-then-is_silent.ensures.value whole in
          let names = subst (λ l. KeepsReports (AreOfBuilding (IsFragmentNameReport (own ++ l))) c.read_texts-2.new.found.items c.check_fragment_names.new.found.items) c.deref-2.ensures.value
          (subst (λ l. KeepsReports (AreOfBuilding (IsFragmentNameReport (l ++ c.deref-2.result.now))) c.read_texts-2.new.found.items c.check_fragment_names.new.found.items)
          c.deref.ensures.value c.in_ok-check_fragment_names.ensures.truth) in
          let documents = subst (λ l. KeepsReports (AreOfOneDocument s l) c.check_fragment_names.new.found.items c.build_files.new.found.items) c.deref-3.ensures.value
          c.in_ok-files.ensures.truth in
          on_ok (KeepsReports (AreOfWhole b s (fragments_among (own ++ lent.documents.items)) own) last new) (AddsTrue b s c.args.sources.now c.args.lent.now found new)
          (adds_whole b s c.args.sources.now c.args.lent.now own trees lent.documents.items c.in_ok-own.ensures.parsed c.in_ok-lent.ensures.parsed c.in_ok-built.ensures.fragments
          found c.read_texts.new.found.items c.read_texts-2.new.found.items c.check_fragment_names.new.found.items c.build_files.new.found.items last new
          c.in_ok-own.ensures.truth c.in_ok-lent.ensures.truth names documents c.in_ok-built.ensures.truth first.1 second.1 own_build.0 fifth.1.build.0) c.check_whole.result adds;
    }

-- something was found before, and stays
pub returns-else-is_silent : goal.returns-else-is_silent
returns-else-is_silent c =
    let s = c.args.schema.now in
    let b = c.args.bounds in
    let own = c.in_ok-own.own.items in
    let trees = c.in_ok-lent.lent.items in
    let lent = c.in_ok-built.built in
    let found = c.args.found.now.lists.items in
    let last = c.build_lent_files.new.found.items in
    let new = c.check_rest.new.found.lists.items in
    record {
      others = λ is_all empty. on_ok (AddsOfParts b s own lent.documents.items last new)
          ((off : RuleSet) → All (IsOnlyOff off) new → ProjectHoldsBut off b s c.args.sources.now c.args.lent.now)
          (λ adds off all.
          let back = part_of_off off last new _ adds.4.appended all in
          let built = building_is_not_off s off _ _ _ c.in_ok-built.ensures.truth back in
          let files = building_is_not_off s off _ _ _ c.in_ok-files.ensures.truth built.1 in
          let Names = IsFragmentNameReport (c.deref.result.now ++ c.deref-2.result.now) in
          let names = none_was_added (AreOfBuilding Names) _ _ c.in_ok-check_fragment_names.ensures.truth off (rules_of_building_are_not_off Names off) files.1 in
          let lent_texts = none_was_added (AreErrorsOf b c.args.lent.now) _ _ c.in_ok-lent.ensures.truth off (errors_are_not_off b c.args.lent.now off) names.1 in
          let texts = none_was_added (AreErrorsOf b c.args.sources.now) _ _ c.in_ok-own.ensures.truth off (errors_are_not_off b c.args.sources.now off) lent_texts.1 in
          let second = lent_texts.0 ∙ texts.0 ∙ empty in
          let quiet = built.0 ∙ files.0 ∙ names.0 ∙ second in
          let read = c.is_silent-is_all_read.ensures.1 (is_all, c.as_slice.ensures.value ∙ second) in
          let silent = c.is_silent.ensures.1 (read, c.as_slice-2.ensures.value ∙ quiet) in
          let other = c.if-is_silent.false in
          let no : ⊥ = cc in
          absurd no) c.check_rest.result (c.check_rest.ensures.truth c.requires);
      truth =
          let names = subst (λ l. KeepsReports (AreOfBuilding (IsFragmentNameReport (own ++ l))) c.read_texts-2.new.found.items c.check_fragment_names.new.found.items) c.deref-2.ensures.value
          (subst (λ l. KeepsReports (AreOfBuilding (IsFragmentNameReport (l ++ c.deref-2.result.now))) c.read_texts-2.new.found.items c.check_fragment_names.new.found.items)
          c.deref.ensures.value c.in_ok-check_fragment_names.ensures.truth) in
          let documents = subst (λ l. KeepsReports (AreOfOneDocument s l) c.check_fragment_names.new.found.items c.build_files.new.found.items) c.deref-3.ensures.value
          c.in_ok-files.ensures.truth in
          on_ok (AddsOfParts b s own lent.documents.items last new) (AddsTrue b s c.args.sources.now c.args.lent.now found new)
          (adds_parts b s c.args.sources.now c.args.lent.now own trees lent.documents.items c.in_ok-own.ensures.parsed c.in_ok-lent.ensures.parsed c.in_ok-built.ensures.fragments
          found c.read_texts.new.found.items c.read_texts-2.new.found.items c.check_fragment_names.new.found.items c.build_files.new.found.items last new
          c.in_ok-own.ensures.truth c.in_ok-lent.ensures.truth names documents c.in_ok-built.ensures.truth) c.check_rest.result (c.check_rest.ensures.truth c.requires);
    }
