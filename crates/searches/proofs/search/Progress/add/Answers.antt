use Rattle.std.proofs.Common.{◌+◌, ◌*◌, false, sym, ◌∙◌, refl}
use Rattle.std.proofs.lemmas.List.{get_or_read}
use Rattle.searches.proofs.Adding.{adds_seen, adds_pushed, place_within}
use Rattle.searches.proofs.search.Progress.add.Goals as goal

pub returns-then-index : goal.returns-then-index
returns-then-index g c =
    let seen = c.args.self.now.seen.items in
    let low = place_within c.args.class c.args.node c.args.self.now c.requires.room c.if-class-ge-CLASSES.false c.if-node-self.false in
    adds_seen c.args.class c.args.before c.args.node c.args.self.now c.requires.room
    (sym (get_or_read seen (c.args.node * 16 + c.args.class) c.index.result.now low c.index.ensures false) ∙ c.if-index.true)

pub returns : goal.returns
returns g c =
    let seen = c.args.self.now.seen.items in
    let node = c.if-node-self.false in
    let class = c.if-class-ge-CLASSES.false in
    let low = place_within c.args.class c.args.node c.args.self.now c.requires.room class node in
    adds_pushed c.args.class c.args.before c.args.node c.args.self.now _
    record { node = c.args.node; class = c.args.class; before = c.args.before }
    c.requires.room refl refl c.in_ok-push.ensures.items refl (refl, refl) low
    (sym (get_or_read seen (c.args.node * 16 + c.args.class) c.index.result.now low c.index.ensures false) ∙ c.if-index.false)
    (class, node)
