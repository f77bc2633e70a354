pub mod PutsPiece
