mod ToldLemmas
mod ReadingLemmas
mod ShelfLemmas
