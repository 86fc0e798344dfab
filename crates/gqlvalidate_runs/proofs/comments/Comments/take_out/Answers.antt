use Rattle.std.proofs.Common.{◌≡◌, [], filter, map, not, rules, subst, sym}
use Rattle.std.proofs.lemmas.List.{nil_from_length}
use Rattle.std.specs.BTreeMap.{get_by}
use Rattle.std.specs.Option.{unwrap_or}
use Rattle.std.specs.Ordering.{nat_cmp}
use Rattle.gqlvalidate_formats.specs.NamedTexts.{named_text}
use Rattle.gqlvalidate_runs.specs.Ignored.{is_ignored}
use Rattle.gqlvalidate_runs.proofs.IgnoredLemmas.{nothing_is_ignored}
use Rattle.gqlvalidate_runs.proofs.KeptLemmas.{each_passes}
use Rattle.gqlvalidate_runs.proofs.comments.Comments.take_out.Goals as goal

pub returns-then-is_empty : goal.returns-then-is_empty
returns-then-is_empty c =
    let comments = c.args.self.now in
    let none : comments.ignored.keys ≡ [] = nil_from_length comments.ignored.keys (c.is_empty.ensures.0 c.if-is_empty.true) in (
      λ n. n,
      sym (each_passes _ (λ f. nothing_is_ignored comments (map named_text c.args.subject.texts.now) (λ n. n) f.report.rule f.report.location none) c.args.findings.now.items),
      search rules,
    )

pub returns : goal.returns
returns c =
    let comments = c.args.self.now in (
      λ n. unwrap_or (get_by (nat_cmp n) c.in_ok-firsts.firsts) n,
      subst (λ texts. c.keep_others.new.findings.items ≡ filter (λ f. not (is_ignored comments texts (λ n. unwrap_or (get_by (nat_cmp n) c.in_ok-firsts.firsts) n) f.report.rule f.report.location))
          c.args.findings.now.items) c.in_ok-counted.ensures.texts c.keep_others.ensures,
      search rules,
    )
