use Rattle.educe_make_clone.proofs.clone_handling.cloning.Goals as goal

pub returns : goal.returns
returns c =
    let ast = c.args.task.ast.now in
    let are = c.in_ok-blocks.ensures in
    record {
      first = c.in_ok-functions.functions;
      second = c.in_ok-from_function.field-0;
      are = c.in_ok-append.ensures.ok;
      clone_is = c.in_ok-functions.ensures ast _ are.clone_is;
      clone_from_is = c.in_ok-from_function.ensures ast are.clone_from_is;
    }
