pub mod RowInterceptors
