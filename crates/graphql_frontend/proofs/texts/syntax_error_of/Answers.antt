use Rattle.std.proofs.Common.{◌≡◌, arith, subst}
use Rattle.graphql_parser.specs.Refusals.{IsRefusal}
use Rattle.graphql_parser.specs.declared.errors.SyntaxError.{SyntaxError}
use Rattle.graphql_frontend.proofs.texts.syntax_error_of.Goals as goal

pub returns-else-is_out_of_memory-clause-refused : goal.returns-else-is_out_of_memory-clause-refused
returns-else-is_out_of_memory-clause-refused c = λ e same tree is.
    let only = c.in-Err.ensures.only tree is in
    let yes = c.is_out_of_memory.ensures.1 only in
    let no = c.if-is_out_of_memory.false in
    grind arith

pub returns-else-is_out_of_memory-clause-why : goal.returns-else-is_out_of_memory-clause-why
returns-else-is_out_of_memory-clause-why c = λ e same.
    let one : c.in-Err.error ≡ e = cc in
    subst (λ (x : SyntaxError). IsRefusal c.args.bounds c.args.source.file_id c.args.source.text.now x) one c.in-Err.ensures.refused
