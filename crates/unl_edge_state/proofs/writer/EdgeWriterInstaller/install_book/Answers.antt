use Rattle.std.proofs.Common.{◌≡◌, refl, sym, ap, ◌∙◌, subst, true, false, is_some}
use Rattle.unl_core.specs.declared.board.Board.{Board}
use Rattle.unl_edge_state.specs.Editions.{board_known}
use Rattle.unl_edge_state.specs.Writing.{Writing}
use Rattle.unl_edge_state.proofs.Boards.{shown_known}
use Rattle.unl_edge_state.proofs.Writings.{book_installed, book_orderly, with_published_book}
use Rattle.unl_publication.specs.Seen.{published}
use Rattle.unl_edge_state.proofs.writer.EdgeWriterInstaller.install_book.Goals as goal

pub returns-then-is_same-clause-book : goal.returns-then-is_same-clause-book
returns-then-is_same-clause-book g c =
    let board = c.board.ensures.board ∙ shown_known (published c.self.inside.publisher) c.value.result.now c.self.invariant.begun c.value.ensures.list ∙ ap (λ (w : Writing). board_known w.known) c.self.view_is in
    (sym (sym (c.get.ensures ∙ ap (λ (b : Board). b.book) board) ∙ c.if-is_same.ensures.0 refl), refl)

pub returns-clause-book : goal.returns-clause-book
returns-clause-book g c =
    let begun : is_some c.args.self.now.known.opening ≡ true = subst (λ (w : Writing). is_some w.known.opening ≡ true) c.self.view_is c.self.invariant.begun in
    let board = c.board.ensures.board ∙ shown_known (published c.self.inside.publisher) c.value.result.now c.self.invariant.begun c.value.ensures.list ∙ ap (λ (w : Writing). board_known w.known) c.self.view_is in
    let is = c.in_ok-publish_book.ensures.published ∙ ap (λ tokens. with_published_book c.args.self.now tokens c.publish_book.new.self.closed) c.in_ok-book.ensures in (
      λ same. let bad : false ≡ true = c.if-is_same.ensures.1 (c.get.ensures ∙ ap (λ (b : Board). b.book) board ∙ sym same) in absurd cc,
      c.in_ok-publish_book.ensures.front,
      book_installed c.args.self.now c.publish_book.new.self c.args.book begun is,
    )

pub returns-clause-orderly : goal.returns-clause-orderly
returns-clause-orderly g c =
    let is = c.in_ok-publish_book.ensures.published ∙ ap (λ tokens. with_published_book c.args.self.now tokens c.publish_book.new.self.closed) c.in_ok-book.ensures in
    book_orderly c.args.self.now c.publish_book.new.self c.args.book is
